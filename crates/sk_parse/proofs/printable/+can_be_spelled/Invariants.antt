use Rattle.std.proofs.Common.{◌≡◌, ◌≤◌}
use Rattle.sk_rows.specs.declared.expr.Expr.{size-Expr}
use Rattle.sk_parse.specs.Printed.{can_be_spelled}
use Rattle.sk_parse.proofs.printable.+can_be_spelled.Given as goal

abbrev pub decreases-can_be_spelled : goal.decreases-can_be_spelled
decreases-can_be_spelled l = goal.size-can_be_spelled l

-- What is left can be spelled exactly where the whole can.
abbrev pub invariant-loop-left : goal.invariant-loop-left
invariant-loop-left l = (can_be_spelled l.left ≡ can_be_spelled l.e) × (size-Expr l.left ≤ size-Expr l.e)
