use Rattle.sk_durable.proofs.Keeping.{newest_first}
use Rattle.sk_durable.proofs.durable.no_numbers.Goals as goal

pub returns : goal.returns
returns c = newest_first
