use Rattle.std.proofs.Common.{◌≡◌, ◌++◌, map}
use Rattle.sk_model.specs.Replies.{row_put}
use Rattle.sk_expr.proofs.answers.all_put.Given as goal

-- The writes so far with those of the rows to come are all.
abbrev pub invariant-loop-row : goal.invariant-loop-row
invariant-loop-row l = l.writes.items ++ map (row_put l.table) l.row-iterator.rest.items ≡ map (row_put l.table) l.initial.row-iterator.rest.items
