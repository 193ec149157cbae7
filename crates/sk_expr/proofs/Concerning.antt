-- A statement comes to the same over the rows that can matter to it as over all that it reads.
use Rattle.std.proofs.Common.{◌≡◌, List, [], ◌∷◌, cond, Option, Some, None, Bool, true, false, Result, Ok, Err, refl, ap, ◌∙◌}
use Rattle.std.specs.List.{filter}
use Rattle.sk_rows.specs.declared.value.Value.{Value}
use Rattle.sk_rows.specs.declared.table.Column.{Column}
use Rattle.sk_rows.specs.declared.expr.Expr.{Expr}
use Rattle.sk_rows.specs.declared.statement.Statement.TheVariants as statement
use Rattle.sk_rows.specs.declared.faults.ValueFault.{ValueFault}
use Rattle.sk_rows.specs.Evaluation.{◌>>=◌}
use Rattle.sk_model.specs.Database.{KeyedRows, RowOf}
use Rattle.sk_model.specs.Reads.{meets, rows_met}
use Rattle.sk_model.specs.Changes.{new_rows}
use Rattle.sk_model.specs.Replies.{deleted, inserted, select_answer, updated}
use Rattle.sk_expr.specs.Concerns.{IsSameOverConcerned, counts}

all_kept : (rows : KeyedRows) → filter (λ r. true) rows ≡ rows
all_kept [] = refl
all_kept (r ∷ rs) = ap (λ l. r ∷ l) (all_kept rs)

unchanged : (m : Result KeyedRows ValueFault) → m ≡ (m >>= λ rest. Ok rest)
unchanged (Ok rest) = refl
unchanged (Err e) = refl

module _ (columns : List Column) (e : Option Expr) where
  abbrev counting : KeyedRows → KeyedRows
  counting = filter (λ r. counts (meets columns e r.1))

  -- one more row, by what the condition says of it
  front : (r : Value × RowOf) (rs : KeyedRows) (met : Result Bool ValueFault) → meets columns e r.1 ≡ met → rows_met columns e (counting rs) ≡ rows_met columns e rs
      → rows_met columns e (cond (counts met) (r ∷ counting rs) (counting rs)) ≡ (met >>= λ is. rows_met columns e rs >>= λ rest. Ok (cond is (r ∷ rest) rest))
  front r rs (Ok true) is rest = rw (is, rest) refl
  front r rs (Ok false) is rest = rest ∙ unchanged (rows_met columns e rs)
  front r rs (Err fault) is rest = rw is refl

  same_met : (rows : KeyedRows) → rows_met columns e (counting rows) ≡ rows_met columns e rows
  same_met [] = refl
  same_met (r ∷ rs) = front r rs (meets columns e r.1) refl (same_met rs)

pub concerned : IsSameOverConcerned
concerned columns t s rows (Some key) = refl
concerned columns t (statement.Begin begun) rows None = refl
concerned columns t statement.Commit rows None = refl
concerned columns t statement.Rollback rows None = refl
concerned columns t (statement.Insert table values) rows None = ap (inserted t values) (all_kept rows)
concerned columns t (statement.Select table names e) rows None = ap (select_answer columns names) (same_met columns e rows)
concerned columns t (statement.Update table sets e) rows None = ap (λ met. updated t (met >>= new_rows columns sets)) (same_met columns e rows)
concerned columns t (statement.Delete table e) rows None = ap (deleted t) (same_met columns e rows)
