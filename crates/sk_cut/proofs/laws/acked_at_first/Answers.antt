use Rattle.sk_cut.proofs.Acking.{at_first}
use Rattle.sk_cut.proofs.laws.acked_at_first.Goals as goal

pub returns : goal.returns
returns c = at_first
