-- The rows that a statement reads, and those that its condition takes.
use Rattle.std.specs.Prelude.{ℕ, List, [], ◌∷◌, Option, Some, None, Bool, true, if◌then◌else◌, cond, map, Result, Ok}
use Rattle.std.specs.FinMap.{find}
use Rattle.sk_rows.specs.declared.value.Value.{Value}
use Rattle.sk_rows.specs.declared.table.Column.{Column}
use Rattle.sk_rows.specs.declared.expr.Op.{Op}
use Rattle.sk_rows.specs.declared.expr.Op.TheVariants as op
use Rattle.sk_rows.specs.declared.expr.Expr.{Expr}
use Rattle.sk_rows.specs.declared.expr.Expr.TheOpen.{Expr-F}
use Rattle.sk_rows.specs.declared.expr.Expr.TheFolds.{fold-Expr}
use Rattle.sk_rows.specs.declared.faults.ValueFault.{ValueFault}
use Rattle.sk_rows.specs.Values.{value_cmp}
use Rattle.sk_rows.specs.Evaluation.{◌>>=◌, column_value, holds_in}
use Rattle.sk_model.specs.Database.{RowOf, KeyedRows}
use Rattle.sk_model.specs.Names.{is_key}

-- what a condition is, as far as `name = literal` goes
pub data Shape : Type 0 where
  Name : (name : List ℕ) → Shape
  Literal : (value : Value) → Shape
  Equation : (name : List ℕ) → (value : Value) → Shape
  Other : Shape

abbrev pub joined : Op → Shape → Shape → Shape
joined op.Eq (Name name) (Literal v) = Equation name v
joined _ _ _ = Other

abbrev pub shape_step : Expr-F Shape → Shape
shape_step (Expr-F.Lit v) = Literal v
shape_step (Expr-F.Col name) = Name name
shape_step (Expr-F.Not a) = Other
shape_step (Expr-F.Two o a b) = joined o a b

abbrev pub shape : Expr → Shape
shape = fold-Expr Shape shape_step

abbrev pub key_in : List Column → Shape → Option Value
key_in columns (Equation name v) = if is_key columns name then Some v else None
key_in columns _ = None

-- the one key that a condition asks for, where it is exactly `key = literal`
abbrev pub key_asked : List Column → Option Expr → Option Value
key_asked columns None = None
key_asked columns (Some e) = key_in columns (shape e)

abbrev pub one_row : Value → Option RowOf → KeyedRows
one_row key None = []
one_row key (Some row) = (key, row) ∷ []

-- the rows that are read: that of the one key, or all
abbrev pub rows_read : KeyedRows → Option Value → KeyedRows
rows_read rows None = rows
rows_read rows (Some key) = one_row key (find value_cmp key rows)

-- whether the row meets the condition; a missing one is TRUE
abbrev pub meets : List Column → Option Expr → RowOf → Result Bool ValueFault
meets columns None row = Ok true
meets columns (Some e) row = holds_in columns row e

-- the rows that meet the condition, or Overflow where it overflows at any of the rows
abbrev pub rows_met : List Column → Option Expr → KeyedRows → Result KeyedRows ValueFault
rows_met columns e [] = Ok []
rows_met columns e (r ∷ rs) = meets columns e r.1 >>= λ met. rows_met columns e rs >>= λ rest. Ok (cond met (r ∷ rest) rest)

-- the values that are asked for; no list of names stands for all columns
abbrev pub picked : List Column → Option (List (List ℕ)) → RowOf → RowOf
picked columns None row = row
picked columns (Some names) row = map (λ name. column_value name columns row) names
