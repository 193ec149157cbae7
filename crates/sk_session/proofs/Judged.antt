-- No refusal of a statement's words, and nothing that it comes to over its rows, loses a transaction.
use Rattle.std.specs.Prelude.{◌≡◌, ℕ, List, [], ◌∷◌, length, map, Option, Some, None, Bool, true, false, not, if◌then◌else◌, ◌&&◌, ◌||◌, Result, Ok, Err, IfSome}
use Rattle.std.proofs.Common.{refl, subst}
use Rattle.std.specs.List.{list_all}
use Rattle.sk_rows.specs.declared.value.Value.{Value}
use Rattle.sk_rows.specs.declared.table.Column.{Column}
use Rattle.sk_rows.specs.declared.statement.Statement.{Statement}
use Rattle.sk_rows.specs.declared.statement.Statement.TheVariants as statement
use Rattle.sk_rows.specs.declared.faults.ValueFault.{ValueFault}
use Rattle.sk_rows.specs.Evaluation.{◌>>=◌}
use Rattle.sk_model.specs.declared.reply.ErrWord.{ErrWord}
use Rattle.sk_model.specs.declared.reply.ErrWord.TheVariants as err
use Rattle.sk_model.specs.declared.reply.Reply.TheVariants as reply
use Rattle.sk_model.specs.Database.{KeyedRows}
use Rattle.sk_model.specs.Names.{cond_known, names_known, sets_known, sets_twice, sets_key}
use Rattle.sk_model.specs.Sorts.{have_sorts, is_condition, sets_sorts}
use Rattle.sk_model.specs.Reads.{rows_met}
use Rattle.sk_model.specs.Changes.{new_rows}
use Rattle.sk_model.specs.Replies.{Answer, refused, has_room, key_of, row_put, inserted, select_answer, updated, deleted, comes_to, insert_refusal, select_refusal, update_refusal, delete_refusal, refusal_in}
use Rattle.sk_model.specs.Spoken.{is_lost}

-- ---- what a statement comes to

abbrev IsKept : Answer → Type 0
IsKept a = is_lost a.0 ≡ false

of_two : (b : Bool) (x y : Answer) → IsKept x → IsKept y → IsKept (if b then x else y)
of_two true x y g h = g
of_two false x y g h = h

inserted_kept : (t : ℕ) (values : List Value) (rows : KeyedRows) → IsKept (inserted t values rows)
inserted_kept t values [] = of_two (has_room values) (reply.Count 1, row_put t (key_of values, values) ∷ []) (refused err.Size) refl refl
inserted_kept t values (r ∷ rows) = refl

shown_kept : (columns : List Column) (names : Option (List (List ℕ))) (r : Result KeyedRows ValueFault) → IsKept (select_answer columns names r)
shown_kept columns names (Err fault) = refl
shown_kept columns names (Ok rows) = refl

updated_kept : (t : ℕ) (r : Result KeyedRows ValueFault) → IsKept (updated t r)
updated_kept t (Err fault) = refl
updated_kept t (Ok rows) = of_two (list_all (λ r. has_room r.1) rows) (reply.Count (length rows), map (row_put t) rows) (refused err.Size) refl refl

deleted_kept : (t : ℕ) (r : Result KeyedRows ValueFault) → IsKept (deleted t r)
deleted_kept t (Err fault) = refl
deleted_kept t (Ok rows) = refl

pub answer_kept : (columns : List Column) (t : ℕ) (s : Statement) (rows : KeyedRows) → is_lost (comes_to columns t s rows).0 ≡ false
answer_kept columns t (statement.Begin begun) rows = refl
answer_kept columns t statement.Commit rows = refl
answer_kept columns t statement.Rollback rows = refl
answer_kept columns t (statement.Insert table values) rows = inserted_kept t values rows
answer_kept columns t (statement.Select table names e) rows = shown_kept columns names (rows_met columns e rows)
answer_kept columns t (statement.Update table sets e) rows = updated_kept t (rows_met columns e rows >>= new_rows columns sets)
answer_kept columns t (statement.Delete table e) rows = deleted_kept t (rows_met columns e rows)

-- ---- what refuses its words

abbrev WordKept : Option ErrWord → Type 0
WordKept o = IfSome o (λ word. is_lost (reply.Refused word) ≡ false)

word_of : (b : Bool) (x y : Option ErrWord) → WordKept x → WordKept y → WordKept (if b then x else y)
word_of true x y g h = g
word_of false x y g h = h

refusal_kept : (columns : List Column) (s : Statement) → WordKept (refusal_in columns s)
unfolding insert_refusal select_refusal update_refusal delete_refusal
refusal_kept columns (statement.Begin begun) = tt
refusal_kept columns statement.Commit = tt
refusal_kept columns statement.Rollback = tt
refusal_kept columns (statement.Insert table values) = word_of (have_sorts values columns) None (Some err.Type) tt refl
refusal_kept columns (statement.Select table names e) =
    word_of (not (names_known columns names && cond_known columns e)) (Some err.Column) _ refl (word_of (not (is_condition columns e)) (Some err.Type) None refl tt)
refusal_kept columns (statement.Update table sets e) =
    word_of (not (sets_known columns sets && cond_known columns e) || sets_twice sets) (Some err.Column) _ refl
    (word_of (sets_key columns sets) (Some err.Key) _ refl (word_of (not (sets_sorts columns sets && is_condition columns e)) (Some err.Type) None refl tt))
refusal_kept columns (statement.Delete table e) =
    word_of (not (cond_known columns e)) (Some err.Column) _ refl (word_of (not (is_condition columns e)) (Some err.Type) None refl tt)

pub word_kept : (columns : List Column) (s : Statement) (word : ErrWord) → refusal_in columns s ≡ Some word → is_lost (reply.Refused word) ≡ false
word_kept columns s word is = subst WordKept is (refusal_kept columns s)
