-- The sessions ended, and one flush more was made.
use Rattle.std.proofs.Common.{refl, ap, ◌∙◌}
use Rattle.std.specs.String.{string_bytes}
use Rattle.sk_run.proofs.Stands.{mem_stands, store_stands}
use Rattle.sk_serial.specs.Saving.{saved_by}
use Rattle.sk_serial.specs.Played.{Now, now}
use Rattle.sk_serial.proofs.Showing.{still_of}
use Rattle.sk_serial.proofs.Closing.{closes_none, closes_all}
use Rattle.sk_serial.proofs.Saves.{saves_same, saves_then, grows_same, grows_then}
use Rattle.sk_serial.proofs.ending.closed.Goals as goal

pub returns-then-playing-clause-closes : goal.returns-then-playing-clause-closes
returns-then-playing-clause-closes g c =
    closes_none g.D.Device.disk mem_stands store_stands (now c.args.playing.run (string_bytes c.args.playing.text) c.args.playing.store c.args.playing.last) c.args.playing.ended c.if-playing.true

pub returns-then-playing-clause-saves : goal.returns-then-playing-clause-saves
returns-then-playing-clause-saves g c = saves_same g.D.Device.disk g.D.Device.faults c.args.playing.store c.args.playing.store refl refl refl

pub returns-in-Err-clause-halted : goal.returns-in-Err-clause-halted
returns-in-Err-clause-halted g c = grows_then g.D.Device.disk g.D.Device.faults c.args.playing.store.disk c.in_ok-run.store.disk c.in-Err.halt.disk c.in_ok-run.ensures.saves.grows c.in-Err.ensures.halted

pub returns-in-Err-with_flush-clause-halted : goal.returns-in-Err-with_flush-clause-halted
returns-in-Err-with_flush-clause-halted g c =
    grows_then g.D.Device.disk g.D.Device.faults c.args.playing.store.disk c.in-Ok.flushed.1.disk c.starved.result.disk
    (grows_then g.D.Device.disk g.D.Device.faults c.args.playing.store.disk c.in_ok-run.store.disk c.in-Ok.flushed.1.disk c.in_ok-run.ensures.saves.grows c.in-Ok.ensures.saves.grows)
    (grows_same g.D.Device.disk g.D.Device.faults c.in-Ok.flushed.1.disk c.starved.result.disk c.starved.ensures.disk)

pub returns-clause-closes : goal.returns-clause-closes
returns-clause-closes g c =
    let old : Now _ = now c.args.playing.run (string_bytes c.args.playing.text) c.args.playing.store c.args.playing.last in
    let new : Now _ = now c.in-Ok.flushed.0 (string_bytes c.in-Ok-with_flush.text) c.in-Ok.flushed.1 c.args.playing.last in
    closes_all g.D.Device.disk mem_stands store_stands old new c.in_ok-run.run' c.in_ok-run.store c.in-Ok.flushed.2 c.args.playing.ended c.if-playing.false c.in_ok-run.ensures.settles
    (still_of g.D.Device.disk c.args.playing.store c.in_ok-run.store c.in_ok-run.ensures.disk c.in_ok-run.ensures.open c.in_ok-run.ensures.saved) c.in_ok-run.ensures.waits c.in_ok-run.ensures.rest c.in_ok-run.ensures.tables c.in_ok-run.ensures.saves.limit c.in-Ok.ensures.keeps c.in-Ok.ensures.shows c.in-Ok.ensures.queue c.in-Ok.ensures.told c.in-Ok.ensures.full c.in-Ok-with_flush.ensures
    (c.in-Ok.ensures.saved ∙ ap (saved_by c.in-Ok.flushed.2) c.in_ok-run.ensures.saved) refl

pub returns-clause-saves : goal.returns-clause-saves
returns-clause-saves g c = saves_then g.D.Device.disk g.D.Device.faults c.args.playing.store c.in_ok-run.store c.in-Ok.flushed.1 c.in_ok-run.ensures.saves c.in-Ok.ensures.saves
