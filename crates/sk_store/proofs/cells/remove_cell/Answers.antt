use Rattle.std.proofs.Common.{None}
use Rattle.sk_store.specs.Cells.{with_cell}
use Rattle.sk_store.proofs.Moving.{removed}
use Rattle.sk_store.proofs.cells.remove_cell.Goals as goal

pub returns-in-Ok-clause-writes : goal.returns-in-Ok-clause-writes
returns-in-Ok-clause-writes g c = λ cells h.
    (with_cell cells c.in-Some.at.page c.in-Some.at.slot None, c.in-Ok.ensures.removes cells h, tt, λ p s e f. removed cells c.args.cell c.in-Some.at c.in-Some.is p s e, λ t. tt)

pub returns-in-Err-clause-caused : goal.returns-in-Err-clause-caused
returns-in-Err-clause-caused g c = c.engine_fault.ensures _ _ c.in-Err.ensures.caused
