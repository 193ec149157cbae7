use Rattle.std.proofs.Common.{◌↔◌, ◌≤◌}
use Rattle.sk_rows.specs.declared.expr.Expr.{size-Expr}
use Rattle.sk_parse.specs.Printed.{nesting}
use Rattle.sk_parse.proofs.printable.+nests_within.Given as goal

abbrev pub decreases-nests_within : goal.decreases-nests_within
decreases-nests_within l = goal.size-nests_within l

-- What is left nests within the room exactly where the whole nests within the limit.
abbrev pub invariant-loop-left : goal.invariant-loop-left
invariant-loop-left l = ((nesting l.left l.place ≤ l.room) ↔ (nesting l.e l.at ≤ l.limit)) × (size-Expr l.left ≤ size-Expr l.e)
