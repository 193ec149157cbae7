use Rattle.std.proofs.Common.{◌<◌, length, refl, sym, ap, subst, ◌∙◌}
use Rattle.sk_model.specs.Names.{columns_at}
use Rattle.sk_store.specs.declared.paged.PagedRows.{PagedRows}
use Rattle.sk_store.specs.Maps.{Shows, head_at}
use Rattle.sk_store.specs.Shown.{MayBe}
use Rattle.sk_store.proofs.Serving.{pushed_all}
use Rattle.sk_store.proofs.Tables.{columns_is, may_of, row_shown, small_of}
use Rattle.sk_store.proofs.paged.PagedRowsRows.push.Goals as goal

pub push_at-requires-clause-small : goal.push_at-requires-clause-small
push_at-requires-clause-small g c = small_of c.requires.0 c.args.table c.args.key.now c.args.row c.requires.1.2

pub returns-clause-pushes : goal.returns-clause-pushes
returns-clause-pushes g c = λ tables chains h.
    let told = g.P.Pages.told in
    let has = g.P.Pages.has c.args.self.now.pages in
    let then = g.P.Pages.has c.push_at.new.pages in
    let kept = c.args.self.now.catalog in
    let maps = c.args.self.now.heads.items in
    let new = c.push_at.new.heads.items in
    let u = c.args.table in
    let key = c.args.key.now in
    let there = sym c.in-Some.ensures.value in
    let tab = c.in-Some.found.now in
    let columns = columns_is told has kept maps tables chains u h tab there in
    let first = c.requires in
    let may = subst (λ cs. MayBe cs key c.args.row) (columns_is told has kept maps first.0 first.1.0 u first.1.1 tab there) (may_of first.0 u key c.args.row first.1.2) in
    pushed_all told has then kept maps new tables chains u key tab.columns h columns c.push_at.ensures.len c.push_at.ensures.others
    g.P.Pages.has c.push_at.new.pages (g.P.Pages.faults c.args.self.now.pages) (g.P.Pages.faults c.push_at.new.pages) (λ (x : PagedRows g.row.P.Denot). Shows told (g.P.Pages.has x.pages) x.catalog x.heads.items) (record c.args.self.now { pages = c.push_at.new.pages; heads = c.push_at.new.heads }) (λ cells y. y) (λ d y. y)
    c.args.by c.args.snapshot c.args.row c.push_at.result
    (c.push_at.ensures.pushes h.all.cells (chains u key) h.all.has_cells (row_shown told has kept maps tables chains u h tab key (head_at maps u key) there refl) may)
