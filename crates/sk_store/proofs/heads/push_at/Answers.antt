use Rattle.std.proofs.Common.{ap, sym, subst, ◌∙◌}
use Rattle.sk_store.specs.Maps.{head_of}
use Rattle.sk_store.specs.Shown.{RowShows}
use Rattle.sk_store.proofs.Pushes.{pushed_as}
use Rattle.sk_store.proofs.Mapping.{others_at, written_at, head_here}
use Rattle.sk_store.proofs.heads.push_at.Goals as goal

pub returns-in-Ok-clause-others : goal.returns-in-Ok-clause-others
returns-in-Ok-clause-others g c =
    others_at c.args.heads.now.items c.args.number c.args.key.now c.index_mut-map.result.now c.push_in.new.heads c.requires.within
    (λ q. ap (λ m. head_of m.entries q) c.index_mut-map.ensures.value ∙ head_here c.args.heads.now.items _ c.args.number q c.requires.within)
    (λ q e. c.push_in.ensures.others q e ∙ c.prepare.ensures q)

pub returns-in-Err-clause-others : goal.returns-in-Err-clause-others
returns-in-Err-clause-others g c =
    others_at c.args.heads.now.items c.args.number c.args.key.now c.index_mut-map.result.now c.prepare.new.heads c.requires.within
    (λ q. ap (λ m. head_of m.entries q) c.index_mut-map.ensures.value ∙ head_here c.args.heads.now.items _ c.args.number q c.requires.within)
    (λ q e. c.prepare.ensures q)

pub returns-in-Ok-clause-pushes : goal.returns-in-Ok-clause-pushes
returns-in-Ok-clause-pushes g c = λ cells d h s m.
    let maps = c.args.heads.now.items in
    let key = c.args.key.now in
    let was = c.prepare.ensures key ∙ ap (λ x. head_of x.entries key) c.index_mut-map.ensures.value ∙ head_here maps _ c.args.number key c.requires.within in
    let is = written_at maps c.args.number key c.push_in.new.heads c.requires.within in
    pushed_as g.P.Pages.has g.P.Pages.told (g.P.Pages.faults c.args.pages.now) (g.P.Pages.faults c.push_in.new.pages) c.push_in.new.pages cells c.args.table.now.columns key d c.args.by c.args.snapshot c.args.row.now c.push_in.result
    _ _ _ _ was is (λ r. c.push_in.ensures.pushes cells d h r m) s

pub returns-in-Err-clause-pushes : goal.returns-in-Err-clause-pushes
returns-in-Err-clause-pushes g c = λ cells d h s m.
    let maps = c.args.heads.now.items in
    let key = c.args.key.now in
    let was = c.prepare.ensures key ∙ ap (λ x. head_of x.entries key) c.index_mut-map.ensures.value ∙ head_here maps _ c.args.number key c.requires.within in
    let is = written_at maps c.args.number key c.prepare.new.heads c.requires.within ∙ was in
    (h, subst (λ x. RowShows g.P.Pages.told cells c.args.table.now.columns key x d) (sym is) s, ap (λ x. x.cell) is)
