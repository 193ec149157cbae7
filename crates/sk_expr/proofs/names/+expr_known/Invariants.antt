use Rattle.std.proofs.Common.{◌≡◌, ◌≤◌}
use Rattle.sk_rows.specs.declared.expr.Expr.{size-Expr}
use Rattle.sk_model.specs.Names.{expr_known}
use Rattle.sk_expr.proofs.names.+expr_known.Given as goal

abbrev pub decreases-expr_known : goal.decreases-expr_known
decreases-expr_known l = goal.size-expr_known l

-- The names in what is left are known exactly where those of the whole are.
abbrev pub invariant-loop-e : goal.invariant-loop-e
invariant-loop-e l = (expr_known l.columns l.e ≡ expr_known l.columns l.expr) × (size-Expr l.e ≤ size-Expr l.expr)
