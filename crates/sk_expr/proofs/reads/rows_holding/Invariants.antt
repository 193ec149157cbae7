use Rattle.std.proofs.Common.{◌≡◌, Some}
use Rattle.sk_model.specs.Reads.{rows_met}
use Rattle.sk_expr.specs.Extended.{extended}
use Rattle.sk_expr.proofs.reads.rows_holding.Given as goal

-- The rows so far with those to come are all that are met.
abbrev pub invariant-loop-row : goal.invariant-loop-row
invariant-loop-row l =
    extended l.out (rows_met l.columns (Some l.cond) l.row-iterator.rest.items) ≡ rows_met l.columns (Some l.cond) l.initial.row-iterator.rest.items
