use Rattle.std.proofs.Common.{refl}
use Rattle.sk_store.proofs.Pushes.{over_shows}
use Rattle.sk_store.proofs.pushing.write_over.Goals as goal

pub returns-in-Ok-clause-writes : goal.returns-in-Ok-clause-writes
returns-in-Ok-clause-writes g c = λ cells columns key d h s m.
    let w = c.in-Ok.ensures.writes cells h in
    (w.0, w.1, over_shows g.P.Pages.told cells w.0 columns key c.args.head.now d c.args.by c.args.row.now c.in-Ok.cell s w.2 m c.requires.over, w.3, w.4)

pub returns-in-Err-clause-writes : goal.returns-in-Err-clause-writes
returns-in-Err-clause-writes g c = λ cells columns key d h s m. (c.in-Err.ensures.writes cells h, s, refl)
