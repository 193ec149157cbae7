use Rattle.sk_linked.proofs.Theorem.{all_one}
use Rattle.sk_linked.proofs.laws.runs_are_one.Goals as goal

pub returns : goal.returns
returns c = all_one
