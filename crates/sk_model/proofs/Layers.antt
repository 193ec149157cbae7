-- What a definition by layers says of an expression that is written out.
use Rattle.std.proofs.Common.{◌≡◌, ℕ, List, ap, sym, ◌∙◌}
use Rattle.sk_rows.specs.declared.value.Value.{Value}
use Rattle.sk_rows.specs.declared.expr.Op.{Op}
use Rattle.sk_rows.specs.declared.expr.Expr.{Expr}
use Rattle.sk_rows.specs.declared.expr.Expr.TheVariants as expr
use Rattle.sk_rows.specs.declared.expr.Expr.TheOpen.{Expr-F}
use Rattle.sk_rows.specs.declared.expr.Expr.TheFolds.{fold-Expr, fold-roll-Expr}

module _ (X : Type 0) (step : Expr-F X → X) where
  pub of_lit : (v : Value) → fold-Expr X step (expr.Lit v) ≡ step (Expr-F.Lit v)
  of_lit v = ap (fold-Expr X step) (sym (expr.rolls-Lit v)) ∙ fold-roll-Expr X step (Expr-F.Lit v)

  pub of_col : (name : List ℕ) → fold-Expr X step (expr.Col name) ≡ step (Expr-F.Col name)
  of_col name = ap (fold-Expr X step) (sym (expr.rolls-Col name)) ∙ fold-roll-Expr X step (Expr-F.Col name)

  pub of_two : (o : Op) (a b : Expr) → fold-Expr X step (expr.Two o a b) ≡ step (Expr-F.Two o (fold-Expr X step a) (fold-Expr X step b))
  of_two o a b = ap (fold-Expr X step) (sym (expr.rolls-Two o a b)) ∙ fold-roll-Expr X step (Expr-F.Two o a b)

  -- a column and a value
  pub of_pair : (o : Op) (name : List ℕ) (v : Value) → fold-Expr X step (expr.Two o (expr.Col name) (expr.Lit v)) ≡ step (Expr-F.Two o (step (Expr-F.Col name)) (step (Expr-F.Lit v)))
  of_pair o name v =
      of_two o (expr.Col name) (expr.Lit v) ∙ ap (λ (x : X). step (Expr-F.Two o x (fold-Expr X step (expr.Lit v)))) (of_col name) ∙ ap (λ (y : X). step (Expr-F.Two o (step (Expr-F.Col name)) y)) (of_lit v)
