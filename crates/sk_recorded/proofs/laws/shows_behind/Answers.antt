use Rattle.sk_recorded.proofs.Paused as law
use Rattle.sk_recorded.proofs.laws.shows_behind.Goals as goal

pub returns : goal.returns
returns c = law.shows_behind
