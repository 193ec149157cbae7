use Rattle.std.proofs.Common.{◌↔◌, ◌≤◌}
use Rattle.sk_rows.specs.Expression.{depth}
use Rattle.sk_rows.specs.declared.expr.Expr.{size-Expr}
use Rattle.sk_rows.proofs.expr.Expr.+is_within.Given as goal

abbrev pub decreases-is_within : goal.decreases-is_within
decreases-is_within l = goal.size-is_within l

-- What is left is within what is left of the limit exactly where the whole is within the limit.
abbrev pub invariant-loop-left : goal.invariant-loop-left
invariant-loop-left l = ((depth l.e ≤ l.left) ↔ (depth l.self ≤ l.limit)) × (size-Expr l.e ≤ size-Expr l.self)

abbrev pub decreases-loop-left : goal.decreases-loop-left
decreases-loop-left l = l.left
