use Rattle.std.proofs.Common.{◌≡◌, vec_len}
use Rattle.sk_rows.specs.Expression.{depth}
use Rattle.sk_rows.specs.Spine.{AreBelow, joined}
use Rattle.sk_rows.proofs.expr.ExprCopies.+copy.Given as goal

abbrev pub decreases-copy : goal.decreases-copy
decreases-copy l = depth l.self.now

-- The operations that are left on the copy so far make the whole, and each right side is a part of it.
abbrev pub invariant-loop-operation : goal.invariant-loop-operation
invariant-loop-operation l = (joined l.operations.items l.copy ≡ l.self) × AreBelow (depth l.self) l.operations.items

abbrev pub decreases-loop-operation : goal.decreases-loop-operation
decreases-loop-operation l = vec_len l.operations
