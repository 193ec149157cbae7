-- What was found was written behind what the disk shows, or nothing was written.
use Rattle.std.proofs.Common.{refl}
use Rattle.sk_run.proofs.Stands.{mem_stands, store_stands}
use Rattle.sk_serial.proofs.Showing.{saves_found}
use Rattle.sk_serial.proofs.Saves.{saves_same}
use Rattle.sk_serial.proofs.Waiting.{keeps_same}
use Rattle.sk_serial.proofs.flushing.find_and_write.Goals as goal

pub returns-in-Err-NoMemory-clause-saves : goal.returns-in-Err-NoMemory-clause-saves
returns-in-Err-NoMemory-clause-saves g c = saves_same g.D.Device.disk g.D.Device.faults c.args.store.now c.args.store.now refl refl refl

pub returns-in-Err-Unanswered-clause-saves : goal.returns-in-Err-Unanswered-clause-saves
returns-in-Err-Unanswered-clause-saves g c = saves_same g.D.Device.disk g.D.Device.faults c.args.store.now c.args.store.now refl refl refl

pub returns-in-Ok-clause-shows : goal.returns-in-Ok-clause-shows
returns-in-Ok-clause-shows g c = saves_found g.D.Device.disk mem_stands store_stands c.args.run.now c.find_batch.new.self c.args.store.now c.written.new.store c.cut.result c.in-Ok.found c.cut.ensures c.requires.open
    c.in-Ok.ensures.found c.find_batch.ensures.kept c.written.ensures.writes

pub returns-in-Err-NoMemory-clause-queue : goal.returns-in-Err-NoMemory-clause-queue
returns-in-Err-NoMemory-clause-queue g c = keeps_same c.args.store.now c.args.store.now refl refl refl

pub returns-in-Err-Unanswered-clause-queue : goal.returns-in-Err-Unanswered-clause-queue
returns-in-Err-Unanswered-clause-queue g c = keeps_same c.args.store.now c.args.store.now refl refl refl
