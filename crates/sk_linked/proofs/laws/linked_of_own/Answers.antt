use Rattle.sk_linked.proofs.Joining as joining
use Rattle.sk_linked.proofs.laws.linked_of_own.Goals as goal

pub returns : goal.returns
returns c = joining.linked_of_own
