use Rattle.std.proofs.Common.{refl, sym, subst}
use Rattle.sk_store.proofs.Pushes.{on_shows, same_shows}
use Rattle.sk_store.proofs.pushing.write_on.Goals as goal

pub returns-in-Ok-write_cell-clause-writes : goal.returns-in-Ok-write_cell-clause-writes
returns-in-Ok-write_cell-clause-writes g c = λ cells d h s m.
    let w = c.in-Ok-write_cell.ensures.writes cells (c.fetch_cell.ensures.keeps cells h) in
    let place = c.in-Ok-claim_place.ensures.ok in
    rw c.fill.ensures (
      w.0,
      w.1,
      on_shows g.P.Pages.told cells w.0 c.args.table.now.columns c.args.key.now c.args.head.now d c.args.by c.args.row.now c.in-Ok-write_cell.cell s w.2 m c.claim_place.new.undo c.args.n c.in-Ok-claim_place.place c.in-Ok.old
          c.requires.on c.claim_place.ensures.seen c.claim_place.ensures.same place.0 place.1 place.2 c.in-Ok.ensures.fits (λ t r k. c.in-Ok.ensures.exact cells r t h k),
      w.3,
      w.4,
    )
