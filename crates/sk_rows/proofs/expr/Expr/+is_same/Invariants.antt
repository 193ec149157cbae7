use Rattle.std.proofs.Common.{◌≡◌, ◌↔◌, ◌≤◌}
use Rattle.sk_rows.specs.declared.expr.Expr.{size-Expr}
use Rattle.sk_rows.proofs.expr.Expr.+is_same.Given as goal

abbrev pub decreases-is_same : goal.decreases-is_same
decreases-is_same l = goal.size-is_same l

-- What is left is alike exactly where the whole is.
abbrev pub invariant-loop-left : goal.invariant-loop-left
invariant-loop-left l = ((l.left ≡ l.right) ↔ (l.self ≡ l.other)) × (size-Expr l.left ≤ size-Expr l.self)
