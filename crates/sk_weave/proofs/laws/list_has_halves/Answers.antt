use Rattle.sk_weave.proofs.Halved.{has_halves}
use Rattle.sk_weave.proofs.laws.list_has_halves.Goals as goal

pub returns : goal.returns
returns c = has_halves
