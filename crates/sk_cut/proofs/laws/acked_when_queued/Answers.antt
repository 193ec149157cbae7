use Rattle.sk_cut.proofs.Acking.{when_queued}
use Rattle.sk_cut.proofs.laws.acked_when_queued.Goals as goal

pub returns : goal.returns
returns c = when_queued
