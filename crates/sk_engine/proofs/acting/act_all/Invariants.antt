use Rattle.std.proofs.Common.{◌≤◌, List, map}
use Rattle.sk_rows.specs.declared.table.Table.{Table}
use Rattle.sk_engine.specs.Rows.{Chains, all_acted}
use Rattle.sk_engine.proofs.acting.act_all.Given as goal

-- the rows so far are done
abbrev pub invariant-loop-row_id : goal.invariant-loop-row_id
invariant-loop-row_id g l = record {
  later : g.R.Rows.faults l.initial.rows ≤ g.R.Rows.faults l.rows;
  acts : (tables : List Table) (chains : Chains) → g.R.Rows.shows l.initial.rows tables chains → g.R.Rows.shows l.rows tables (all_acted l.act (map (λ p. p.now) l.yielded) chains);
}
