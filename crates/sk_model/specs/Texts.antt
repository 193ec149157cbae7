-- The texts that statements may write.
use Rattle.std.specs.Prelude.{Bool, true, ◌&&◌}
use Rattle.std.specs.List.{list_all}
use Rattle.sk_rows.specs.declared.expr.Expr.{Expr}
use Rattle.sk_rows.specs.declared.expr.Expr.TheOpen.{Expr-F}
use Rattle.sk_rows.specs.declared.expr.Expr.TheFolds.{fold-Expr}
use Rattle.sk_rows.specs.declared.statement.SetItem.{SetItem}
use Rattle.sk_rows.specs.declared.statement.Statement.{Statement}
use Rattle.sk_rows.specs.declared.statement.Statement.TheVariants as statement
use Rattle.sk_model.specs.EngineConditions.{is_short, are_short}

abbrev pub short_step : Expr-F Bool → Bool
short_step (Expr-F.Lit v) = is_short v
short_step (Expr-F.Col name) = true
short_step (Expr-F.Not a) = a
short_step (Expr-F.Two op a b) = a && b

-- no text in the expression is too long for a row
abbrev pub expr_is_short : Expr → Bool
expr_is_short = fold-Expr Bool short_step

-- no text that the statement may write is too long for a row
abbrev pub texts_are_short : Statement → Bool
texts_are_short (statement.Insert table values) = are_short values
texts_are_short (statement.Update table sets e) = list_all (λ (s : SetItem). expr_is_short s.value) sets
texts_are_short _ = true
