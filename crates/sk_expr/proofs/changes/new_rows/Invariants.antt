use Rattle.std.proofs.Common.{◌≡◌, drop}
use Rattle.sk_model.specs.Changes.{new_rows}
use Rattle.sk_expr.specs.Extended.{extended}
use Rattle.sk_expr.proofs.changes.new_rows.Given as goal

-- The new rows so far with those to come are all.
abbrev pub invariant-loop-row : goal.invariant-loop-row
invariant-loop-row l = extended l.out (new_rows l.columns l.sets (drop l.row-index l.rows)) ≡ new_rows l.columns l.sets l.rows
