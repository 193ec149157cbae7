use Rattle.sk_recorded.proofs.Grown as law
use Rattle.sk_recorded.proofs.laws.answered_grows.Goals as goal

pub returns : goal.returns
returns c = law.answered_grows
