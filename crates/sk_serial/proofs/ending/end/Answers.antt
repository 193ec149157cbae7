-- What the run hands out, and what is kept of it.
use Rattle.std.specs.String.{string_bytes}
use Rattle.std.proofs.Common.{refl}
use Rattle.sk_run.proofs.Stands.{mem_stands, store_stands}
use Rattle.sk_serial.specs.Played.{Now, now}
use Rattle.sk_serial.proofs.Closing.{ends_so}
use Rattle.sk_serial.proofs.Saves.{is_kept}
use Rattle.sk_serial.proofs.ending.end.Goals as goal

pub returns-clause-ends : goal.returns-clause-ends
returns-clause-ends g c =
    let old : Now _ = now c.args.playing.run (string_bytes c.args.playing.text) c.args.playing.store c.args.playing.last in
    let new : Now _ = now c.in_ok-run.field-0.run (string_bytes c.in_ok-run.field-0.text) c.in_ok-run.field-0.store c.in_ok-run.field-0.last in
    ends_so g.D.Device.disk mem_stands store_stands old new c.args.playing.ended c.in-Ok.ended (string_bytes c.in_ok-run.field-0.text) (record { receipts = c.into_parts-disk.result.1; cut = c.into_parts-disk.result.2 }) c.in_ok-run.field-0.last
    c.into_parts-disk.result.0 c.broken-broken.result c.in_ok-run.ensures.closes c.in-Ok.ensures.hands_out c.in-Ok.ensures.over c.in-Ok.ensures.only c.into_parts-disk.ensures.acked refl (rw (c.into_parts-disk.ensures.receipts, c.into_parts-disk.ensures.cut) refl) refl c.into_parts-disk.ensures.disk c.broken-broken.ensures

pub returns-clause-kept : goal.returns-clause-kept
returns-clause-kept g c = is_kept g.D.Device.disk g.D.Device.faults c.args.playing.store c.in_ok-run.field-0.store c.into_parts-disk.result.1 c.into_parts-disk.result.2 c.broken-broken.result c.into_parts-disk.result.0
    c.in_ok-run.ensures.saves c.into_parts-disk.ensures.disk c.into_parts-disk.ensures.receipts c.into_parts-disk.ensures.cut c.broken-broken.ensures c.into_parts-disk.ensures.stands
