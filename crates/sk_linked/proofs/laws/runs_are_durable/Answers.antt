use Rattle.sk_linked.proofs.Acked.{durable}
use Rattle.sk_linked.proofs.laws.runs_are_durable.Goals as goal

pub returns : goal.returns
returns c = durable
