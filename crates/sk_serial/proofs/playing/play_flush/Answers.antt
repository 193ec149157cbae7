-- The flush came of its line.
use Rattle.std.proofs.Common.{refl, sym}
use Rattle.std.specs.String.{string_bytes}
use Rattle.sk_run.proofs.Stands.{mem_stands, store_stands}
use Rattle.sk_serial.specs.Played.{Now, now}
use Rattle.sk_serial.proofs.Plays.{plays_flush, flush_next}
use Rattle.sk_serial.proofs.playing.play_flush.Goals as goal

pub returns-clause-played : goal.returns-clause-played
returns-clause-played g c =
    let old : Now _ = now c.args.playing.run (string_bytes c.args.playing.text) c.args.playing.store c.args.playing.last in
    let new : Now _ = now c.in_ok-run.run' (string_bytes c.in-Ok.text) c.in_ok-run.store c.args.playing.last in
    flush_next g.D.Device.disk mem_stands store_stands old new c.is_broken-ended.result (c.in_ok-run.note, sym c.is_broken-ended.ensures, plays_flush g.D.Device.disk mem_stands store_stands old new c.in_ok-run.note c.in_ok-run.ensures.keeps c.in_ok-run.ensures.shows c.in-Ok.ensures c.in_ok-run.ensures.saved c.in_ok-run.ensures.saves.limit c.in_ok-run.ensures.full c.in_ok-run.ensures.queue refl)
