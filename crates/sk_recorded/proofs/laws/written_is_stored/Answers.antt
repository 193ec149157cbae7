use Rattle.sk_recorded.proofs.Paused as law
use Rattle.sk_recorded.proofs.laws.written_is_stored.Goals as goal

pub returns : goal.returns
returns c = law.written_is_stored
