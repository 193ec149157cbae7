use Rattle.sk_linked.proofs.Recorded.{records_one}
use Rattle.sk_linked.proofs.laws.records_are_one.Goals as goal

pub returns : goal.returns
returns c = records_one
