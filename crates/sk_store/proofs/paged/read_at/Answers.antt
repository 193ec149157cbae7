use Rattle.std.proofs.Common.{Ok, None, sym, ◌∙◌}
use Rattle.sk_chain.specs.Reading.{found}
use Rattle.sk_store.proofs.Tables.{columns_is, gives_row, none_read_at, past_head, row_shown}
use Rattle.sk_store.proofs.paged.read_at.Goals as goal

pub returns-in-Some-find_head-clause-reads : goal.returns-in-Some-find_head-clause-reads
returns-in-Some-find_head-clause-reads g c = λ tables chains h.
    let told = g.P.Pages.told in
    let has = g.P.Pages.has c.args.pages.now in
    let kept = c.args.catalog.now in
    let maps = c.args.heads.now.items in
    let t = c.args.number in
    let there = sym c.in-Some.ensures.value in
    gives_row told (g.P.Pages.faults c.args.pages.now) (g.P.Pages.faults c.read_head.new.pages) tables t c.args.key.now c.in-Some.table.now.columns (found (chains t c.args.key.now) c.args.by c.args.snapshot) c.read_head.result
    (columns_is told has kept maps tables chains t h c.in-Some.table.now there)
    (c.read_head.ensures.reads h.all.cells (chains t c.args.key.now) h.all.has_cells (row_shown told has kept maps tables chains t h c.in-Some.table.now c.args.key.now c.in-Some-find_head.head.now there c.in-Some-find_head.ensures))

pub returns-in-None-clause-reads : goal.returns-in-None-clause-reads
returns-in-None-clause-reads g c = λ tables chains h.
    none_read_at g.P.Pages.told (g.P.Pages.has c.args.pages.now) c.args.catalog.now c.args.heads.now.items tables chains c.args.number h _ _ c.args.key.now c.args.by c.args.snapshot c.in-None.ensures
