use Rattle.sk_linked.proofs.Keys.{scan}
use Rattle.sk_linked.proofs.laws.scan_is_of_view.Goals as goal

pub returns : goal.returns
returns c = scan
