use Rattle.sk_linked.proofs.Theorem.{linked}
use Rattle.sk_linked.proofs.laws.runs_are_linked.Goals as goal

pub returns : goal.returns
returns c = linked
