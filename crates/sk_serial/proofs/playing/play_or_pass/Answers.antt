-- A line that is passed leaves the store alone.
use Rattle.std.proofs.Common.{refl}
use Rattle.sk_serial.proofs.Saves.{saves_same}
use Rattle.sk_serial.proofs.playing.play_or_pass.Goals as goal

pub returns-then-playing-clause-saves : goal.returns-then-playing-clause-saves
returns-then-playing-clause-saves g c = saves_same g.D.Device.disk g.D.Device.faults c.args.playing.store c.args.playing.store refl refl refl
