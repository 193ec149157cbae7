use Rattle.sk_linked.proofs.Keys.{get}
use Rattle.sk_linked.proofs.laws.get_is_of_view.Goals as goal

pub returns : goal.returns
returns c = get
