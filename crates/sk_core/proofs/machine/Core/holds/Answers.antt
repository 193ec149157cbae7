use Rattle.sk_core.proofs.Reaching.{holds}
use Rattle.sk_core.proofs.machine.Core.holds.Goals as goal

pub returns : goal.returns
returns c = holds c.args.self.now c.is_reached.ensures
