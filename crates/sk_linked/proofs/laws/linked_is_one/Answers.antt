use Rattle.sk_linked.proofs.One.{one}
use Rattle.sk_linked.proofs.laws.linked_is_one.Goals as goal

pub returns : goal.returns
returns c = one
