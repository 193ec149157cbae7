-- An expression as its first part and the operations on it.
use Rattle.std.specs.Prelude.{ℕ, ◌<◌, List, [], ◌∷◌}
use Rattle.sk_rows.specs.declared.expr.Expr.{Expr}
use Rattle.sk_rows.specs.declared.expr.Expr.TheVariants as expr
use Rattle.sk_rows.specs.Expression.{depth}
use Rattle.sk_rows.specs.declared.operations.First.{First}
use Rattle.sk_rows.specs.declared.operations.First.TheVariants as first
use Rattle.sk_rows.specs.declared.operations.Operation.{Operation}

-- the expression that is only this first part
abbrev pub first_of : First → Expr
first_of (first.Lit value) = expr.Lit value.now
first_of (first.Col name) = expr.Col name.now
first_of (first.Not a) = expr.Not a.now

-- the operations on a left side, the outermost first
abbrev pub joined : List Operation → Expr → Expr
joined [] e = e
joined (o ∷ os) e = expr.Two o.op (joined os e) o.right.now

-- each right side is less than n deep
abbrev pub AreBelow : ℕ → List Operation → Type 0
AreBelow n [] = Unit {0}
AreBelow n (o ∷ os) = (depth o.right.now < n) × AreBelow n os
