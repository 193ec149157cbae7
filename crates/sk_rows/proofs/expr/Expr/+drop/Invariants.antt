use Rattle.std.proofs.Common.{◌≤◌}
use Rattle.sk_rows.specs.declared.expr.Expr.{size-Expr}
use Rattle.sk_rows.proofs.expr.Expr.+drop.Given as goal

abbrev pub decreases-drop : goal.decreases-drop
decreases-drop l = goal.size-drop l

-- What is left to drop is no deeper than the whole.
abbrev pub invariant-loop-self : goal.invariant-loop-self
invariant-loop-self l = size-Expr l.self ≤ size-Expr l.initial.self
