use Rattle.sk_store.proofs.cells.write_cell.Goals as goal

pub returns-clause-caused : goal.returns-clause-caused
returns-clause-caused g c = c.engine_fault.ensures _ _ c.in-Err.ensures.caused
