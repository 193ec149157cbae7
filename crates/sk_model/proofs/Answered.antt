-- What a statement that is not refused comes to: only a count comes with writes, and these are of its table.
use Rattle.std.specs.Prelude.{◌≡◌, ℕ, Bool, true, false, cond, if◌then◌else◌, List, [], ◌∷◌, length, map, Option, Result, Ok, Err}
use Rattle.std.proofs.Common.{refl}
use Rattle.std.specs.List.{list_all, AllByRecursion}
use Rattle.sk_rows.specs.declared.value.Value.{Value}
use Rattle.sk_rows.specs.declared.table.Column.{Column}
use Rattle.sk_rows.specs.declared.statement.Statement.{Statement}
use Rattle.sk_rows.specs.declared.statement.Statement.TheVariants as statement
use Rattle.sk_rows.specs.declared.faults.ValueFault.{ValueFault}
use Rattle.sk_rows.specs.Evaluation.{◌>>=◌}
use Rattle.sk_model.specs.declared.commit.Write.{Write}
use Rattle.sk_model.specs.declared.reply.ErrWord.TheVariants as err
use Rattle.sk_model.specs.declared.reply.Reply.TheVariants as reply
use Rattle.sk_model.specs.Database.{RowOf, KeyedRows}
use Rattle.sk_model.specs.Reads.{rows_met}
use Rattle.sk_model.specs.Changes.{new_rows}
use Rattle.sk_model.specs.Replies.{Answer, refused, has_room, key_of, row_put, row_gone, inserted, select_answer, updated, deleted, comes_to, is_count}

-- what does not count writes nothing, and what is written is of this table
abbrev pub Writes : ℕ → Answer → Type 0
Writes t a = (cond (is_count a.0) a.1 [] ≡ a.1) × AllByRecursion (λ (w : Write). w.table ≡ t) a.1

each_row : (t : ℕ) (f : Value × RowOf → Write) → ((e : Value × RowOf) → (f e).table ≡ t) → (rows : KeyedRows) → AllByRecursion (λ (w : Write). w.table ≡ t) (map f rows)
each_row t f is [] = tt
each_row t f is (e ∷ rows) = (is e, each_row t f is rows)

of_two : (t : ℕ) (b : Bool) (x y : Answer) → Writes t x → Writes t y → Writes t (if b then x else y)
of_two t true x y g h = g
of_two t false x y g h = h

inserted_writes : (t : ℕ) (values : List Value) (rows : KeyedRows) → Writes t (inserted t values rows)
inserted_writes t values [] = of_two t (has_room values) (reply.Count 1, row_put t (key_of values, values) ∷ []) (refused err.Size) (refl, (refl, tt)) (refl, tt)
inserted_writes t values (r ∷ rows) = (refl, tt)

shown_writes : (t : ℕ) (columns : List Column) (names : Option (List (List ℕ))) (r : Result KeyedRows ValueFault) → Writes t (select_answer columns names r)
shown_writes t columns names (Err fault) = (refl, tt)
shown_writes t columns names (Ok rows) = (refl, tt)

updated_writes : (t : ℕ) (r : Result KeyedRows ValueFault) → Writes t (updated t r)
updated_writes t (Err fault) = (refl, tt)
updated_writes t (Ok rows) = of_two t (list_all (λ r. has_room r.1) rows) (reply.Count (length rows), map (row_put t) rows) (refused err.Size) (refl, each_row t (row_put t) (λ e. refl) rows) (refl, tt)

deleted_writes : (t : ℕ) (r : Result KeyedRows ValueFault) → Writes t (deleted t r)
deleted_writes t (Err fault) = (refl, tt)
deleted_writes t (Ok rows) = (refl, each_row t (row_gone t) (λ e. refl) rows)

pub answer_writes : (columns : List Column) (t : ℕ) (s : Statement) (rows : KeyedRows) → Writes t (comes_to columns t s rows)
answer_writes columns t (statement.Begin begun) rows = (refl, tt)
answer_writes columns t statement.Commit rows = (refl, tt)
answer_writes columns t statement.Rollback rows = (refl, tt)
answer_writes columns t (statement.Insert table values) rows = inserted_writes t values rows
answer_writes columns t (statement.Select table names e) rows = shown_writes t columns names (rows_met columns e rows)
answer_writes columns t (statement.Update table sets e) rows = updated_writes t (rows_met columns e rows >>= new_rows columns sets)
answer_writes columns t (statement.Delete table e) rows = deleted_writes t (rows_met columns e rows)
