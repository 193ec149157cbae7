use Rattle.std.proofs.Common.{◌≤◌}
use Rattle.sk_engine.specs.Rows.{Forgets}
use Rattle.sk_engine.proofs.purging.forget_rows.Given as goal

-- no more than this was given up so far
abbrev pub invariant-loop-row_id : goal.invariant-loop-row_id
invariant-loop-row_id g l = record {
  later : g.R.Rows.faults l.initial.rows ≤ g.R.Rows.faults l.rows;
  forgets : Forgets g.R.Rows.shows l.upto l.initial.rows l.rows;
}
