use Rattle.sk_cut.proofs.Acking.{when_flushed}
use Rattle.sk_cut.proofs.laws.acked_when_flushed.Goals as goal

pub returns : goal.returns
returns c = when_flushed
