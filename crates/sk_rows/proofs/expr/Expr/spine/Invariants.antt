use Rattle.std.proofs.Common.{◌≡◌, ◌≤◌}
use Rattle.sk_rows.specs.Expression.{depth}
use Rattle.sk_rows.specs.Spine.{AreBelow, joined}
use Rattle.sk_rows.proofs.expr.Expr.spine.Given as goal

-- The operations so far on what is left make the whole, and each right side is a part of it.
abbrev pub invariant-loop-e : goal.invariant-loop-e
invariant-loop-e l =
    (joined l.operations.items l.e ≡ l.self) × (depth l.e ≤ depth l.self) × AreBelow (depth l.self) l.operations.items
