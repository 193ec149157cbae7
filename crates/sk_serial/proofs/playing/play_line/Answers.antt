-- STOP leaves the store alone.
use Rattle.std.proofs.Common.{ap}
use Rattle.sk_durable.specs.Kept.{Kept}
use Rattle.sk_serial.proofs.Saves.{saves_same}
use Rattle.sk_serial.proofs.playing.play_line.Goals as goal

pub returns-in-Stop-clause-saves : goal.returns-in-Stop-clause-saves
returns-in-Stop-clause-saves g c = saves_same g.D.Device.disk g.D.Device.faults c.args.playing.store c.stopped.result.store (ap (λ (k : Kept _). k.disk) c.stopped.ensures.store) (ap (λ (k : Kept _). k.broken) c.stopped.ensures.store) (ap (λ (k : Kept _). k.logmax) c.stopped.ensures.store)
