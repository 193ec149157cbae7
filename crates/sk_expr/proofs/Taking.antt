-- The rows that a condition takes, from the front on.
use Rattle.std.proofs.Common.{◌≡◌, List, [], ◌∷◌, ◌++◌, append_assoc, Some, None, true, false, Result, Ok, Err, refl, sym, ap, ◌∙◌}
use Rattle.sk_rows.specs.declared.value.Value.{Value}
use Rattle.sk_rows.specs.declared.table.Column.{Column}
use Rattle.sk_rows.specs.declared.expr.Expr.{Expr}
use Rattle.sk_rows.specs.declared.faults.ValueFault.{ValueFault}
use Rattle.sk_rows.specs.Evaluation.{◌>>=◌, holds_in}
use Rattle.sk_model.specs.Database.{KeyedRows, RowOf}
use Rattle.sk_model.specs.Reads.{rows_met}
use Rattle.sk_expr.specs.Extended.{extended}

-- no condition takes all rows
pub all_met : (columns : List Column) (rows : KeyedRows) → rows_met columns None rows ≡ Ok rows
all_met columns [] = refl
all_met columns (r ∷ rs) = ap (λ m. m >>= λ rest. Ok (r ∷ rest)) (all_met columns rs)

taken : (out : KeyedRows) (r : Value × RowOf) (m : Result KeyedRows ValueFault) → extended out (m >>= λ rest. Ok (r ∷ rest)) ≡ extended (out ++ r ∷ []) m
taken out r (Ok rest) = ap Ok (sym (append_assoc out (r ∷ []) rest))
taken out r (Err e) = refl

left : (out : KeyedRows) (m : Result KeyedRows ValueFault) → extended out (m >>= λ rest. Ok rest) ≡ extended out m
left out (Ok rest) = refl
left out (Err e) = refl

module _ (columns : List Column) (e : Expr) (r : Value × RowOf) (rows rest out : KeyedRows) (all : Result KeyedRows ValueFault) where
  -- a row that meets the condition
  pub row_taken : (new : KeyedRows) → extended out (rows_met columns (Some e) rows) ≡ all → rows ≡ r ∷ rest → holds_in columns r.1 e ≡ Ok true → new ≡ out ++ r ∷ []
      → extended new (rows_met columns (Some e) rest) ≡ all
  row_taken new so_far is holds made =
      ap (λ l. extended l (rows_met columns (Some e) rest)) made ∙ sym (taken out r (rows_met columns (Some e) rest)) ∙ sym (step holds) ∙ ap (λ l. extended out (rows_met columns (Some e) l)) (sym is) ∙ so_far
    where
      step : holds_in columns r.1 e ≡ Ok true → extended out (rows_met columns (Some e) (r ∷ rest)) ≡ extended out (rows_met columns (Some e) rest >>= λ more. Ok (r ∷ more))
      step holds = rw holds refl

  -- one that does not
  pub row_left : extended out (rows_met columns (Some e) rows) ≡ all → rows ≡ r ∷ rest → holds_in columns r.1 e ≡ Ok false → extended out (rows_met columns (Some e) rest) ≡ all
  row_left so_far is holds = sym (left out (rows_met columns (Some e) rest)) ∙ sym (step holds) ∙ ap (λ l. extended out (rows_met columns (Some e) l)) (sym is) ∙ so_far
    where
      step : holds_in columns r.1 e ≡ Ok false → extended out (rows_met columns (Some e) (r ∷ rest)) ≡ extended out (rows_met columns (Some e) rest >>= λ more. Ok more)
      step holds = rw holds refl
