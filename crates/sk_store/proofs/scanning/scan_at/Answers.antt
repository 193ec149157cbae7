use Rattle.std.proofs.Common.{◌<◌, length, sym, ap, ◌∙◌, arith}
use Rattle.sk_chain.specs.Reading.{found}
use Rattle.sk_model.specs.declared.call.EngineReply.TheVariants.{Rows}
use Rattle.sk_chain.specs.Promise.{replied}
use Rattle.sk_store.specs.Maps.{head_of}
use Rattle.sk_store.proofs.Mapping.{head_here, no_heads}
use Rattle.sk_store.proofs.Tables.{columns_is, nothing_scanned, past_head, row_shown, scans_as}
use Rattle.sk_store.proofs.scanning.scan_at.Goals as goal

pub returns-then-number-len-clause-scans : goal.returns-then-number-len-clause-scans
returns-then-number-len-clause-scans g c = λ tables chains h.
    let told = g.P.Pages.told in
    let has = g.P.Pages.has c.args.pages.now in
    let kept = c.args.catalog.now in
    let maps = c.args.heads.now.items in
    let t = c.args.number in
    let there = sym c.in-Some.ensures.value in
    let l : t < length maps = omega arith in
    scans_as told (g.P.Pages.faults c.args.pages.now) (g.P.Pages.faults c.scan_rows.new.pages) tables t c.in-Some.table.now.columns (λ q. found (chains t q) c.args.by c.args.snapshot) (replied Rows c.scan_rows.result)
    (columns_is told has kept maps tables chains t h c.in-Some.table.now there)
    (c.scan_rows.ensures.scans h.all.cells (chains t) h.all.has_cells
    (λ q. row_shown told has kept maps tables chains t h c.in-Some.table.now q _ there (ap (λ m. head_of m.entries q) c.index-map.ensures ∙ head_here maps _ t q l))
    c.scan_rows.ensures.ordered)
