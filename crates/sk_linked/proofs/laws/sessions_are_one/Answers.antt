use Rattle.sk_linked.proofs.Kept as kept
use Rattle.sk_linked.proofs.laws.sessions_are_one.Goals as goal

pub returns : goal.returns
returns c = kept.sessions_are_one
