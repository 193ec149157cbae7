use Rattle.std.proofs.Common.{Some, sym}
use Rattle.sk_chain.specs.Reading.{Sees, last_upto}
use Rattle.sk_engine.specs.Rows.{row_in}
use Rattle.sk_store.proofs.Readings.{gives}
use Rattle.sk_store.proofs.Tables.{columns_is, gives_row, row_shown}
use Rattle.sk_store.proofs.paged.given_at.Goals as goal

pub returns-in-Some-find_head-clause-gives : goal.returns-in-Some-find_head-clause-gives
returns-in-Some-find_head-clause-gives g c = λ tables chains h.
    let told = g.P.Pages.told in
    let has = g.P.Pages.has c.args.pages.now in
    let kept = c.args.catalog.now in
    let maps = c.args.heads.now.items in
    let t = c.args.number in
    let key = c.args.key.now in
    let d = chains t key in
    let there = sym c.in-Some.ensures.value in
    let before = g.P.Pages.faults c.args.pages.now in
    let now = g.P.Pages.faults c.read_stamped.new.pages in
    let shown = row_shown told has kept maps tables chains t h c.in-Some.table.now key c.in-Some-find_head.head.now there c.in-Some-find_head.ensures in
    gives_row told before now tables t key c.in-Some.table.now.columns (Sees (last_upto c.args.n d.settled)) c.read_stamped.result (columns_is told has kept maps tables chains t h c.in-Some.table.now there)
    (gives told before now c.in-Some.table.now.columns key (row_in (last_upto c.args.n d.settled)) c.read_stamped.result (λ y. c.read_stamped.ensures.exact h.all.cells d y h.all.has_cells shown) (c.read_stamped.ensures.fits shown.fit) c.read_stamped.ensures.caused)
