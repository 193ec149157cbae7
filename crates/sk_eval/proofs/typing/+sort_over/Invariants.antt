use Rattle.std.proofs.Common.{◌≡◌, ◌≤◌}
use Rattle.sk_rows.specs.declared.expr.Expr.{size-Expr}
use Rattle.sk_rows.specs.Typing.{sort_in}
use Rattle.sk_eval.specs.Typed.{outcome}
use Rattle.sk_eval.proofs.typing.+sort_over.Given as goal

abbrev pub decreases-sort_over : goal.decreases-sort_over
decreases-sort_over l = goal.size-sort_over l

-- What is left decides what the whole comes to.
abbrev pub invariant-loop-e : goal.invariant-loop-e
invariant-loop-e l = (outcome l.outcomes (sort_in l.columns l.e) ≡ sort_in l.columns l.expr) × (size-Expr l.e ≤ size-Expr l.expr)
