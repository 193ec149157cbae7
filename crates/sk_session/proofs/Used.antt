-- A line that is answered over a table uses a label.
use Rattle.std.specs.Prelude.{◌≡◌, ℕ, List, [], ◌∷◌, length, map, Option, Some, None, Bool, true, false, not, if◌then◌else◌, ◌&&◌, ◌||◌, Result, Ok, Err, IfSome}
use Rattle.std.proofs.Common.{refl, subst}
use Rattle.std.specs.List.{list_all}
use Rattle.sk_rows.specs.declared.value.Value.{Value}
use Rattle.sk_rows.specs.declared.table.Column.{Column}
use Rattle.sk_rows.specs.declared.statement.Statement.{Statement}
use Rattle.sk_rows.specs.declared.statement.Statement.TheVariants as statement
use Rattle.sk_rows.specs.declared.faults.ValueFault.{ValueFault}
use Rattle.sk_rows.specs.Evaluation.{◌>>=◌}
use Rattle.sk_model.specs.declared.reply.ErrWord.{ErrWord}
use Rattle.sk_model.specs.declared.reply.ErrWord.TheVariants as err
use Rattle.sk_model.specs.declared.reply.Reply.TheVariants as reply
use Rattle.sk_model.specs.Database.{KeyedRows}
use Rattle.sk_model.specs.Names.{cond_known, names_known, sets_known, sets_twice, sets_key}
use Rattle.sk_model.specs.Sorts.{have_sorts, is_condition, sets_sorts}
use Rattle.sk_model.specs.Reads.{rows_met}
use Rattle.sk_model.specs.Changes.{new_rows}
use Rattle.sk_model.specs.Replies.{Answer, refused, has_room, key_of, row_put, inserted, select_answer, updated, deleted, comes_to, insert_refusal, select_refusal, update_refusal, delete_refusal, refusal_in}
use Rattle.sk_model.specs.Spoken.{Outside, Inside, uses_label}
use Rattle.sk_session.specs.Printed.{IsPlain}

-- ---- what a statement comes to

abbrev IsUsed : Answer → Type 0
IsUsed a = (uses_label Outside a.0 ≡ true) × (uses_label Inside a.0 ≡ true)

of_two : (b : Bool) (x y : Answer) → IsUsed x → IsUsed y → IsUsed (if b then x else y)
of_two true x y g h = g
of_two false x y g h = h

inserted_used : (t : ℕ) (values : List Value) (rows : KeyedRows) → IsUsed (inserted t values rows)
inserted_used t values [] = of_two (has_room values) (reply.Count 1, row_put t (key_of values, values) ∷ []) (refused err.Size) (refl, refl) (refl, refl)
inserted_used t values (r ∷ rows) = (refl, refl)

shown_used : (columns : List Column) (names : Option (List (List ℕ))) (r : Result KeyedRows ValueFault) → IsUsed (select_answer columns names r)
shown_used columns names (Err fault) = (refl, refl)
shown_used columns names (Ok rows) = (refl, refl)

updated_used : (t : ℕ) (r : Result KeyedRows ValueFault) → IsUsed (updated t r)
updated_used t (Err fault) = (refl, refl)
updated_used t (Ok rows) = of_two (list_all (λ r. has_room r.1) rows) (reply.Count (length rows), map (row_put t) rows) (refused err.Size) (refl, refl) (refl, refl)

deleted_used : (t : ℕ) (r : Result KeyedRows ValueFault) → IsUsed (deleted t r)
deleted_used t (Err fault) = (refl, refl)
deleted_used t (Ok rows) = (refl, refl)

pub answer_used : (columns : List Column) (t : ℕ) (s : Statement) (rows : KeyedRows) → IsPlain s → IsUsed (comes_to columns t s rows)
answer_used columns t (statement.Begin begun) rows plain = absurd cc
answer_used columns t statement.Commit rows plain = absurd cc
answer_used columns t statement.Rollback rows plain = absurd cc
answer_used columns t (statement.Insert table values) rows plain = inserted_used t values rows
answer_used columns t (statement.Select table names e) rows plain = shown_used columns names (rows_met columns e rows)
answer_used columns t (statement.Update table sets e) rows plain = updated_used t (rows_met columns e rows >>= new_rows columns sets)
answer_used columns t (statement.Delete table e) rows plain = deleted_used t (rows_met columns e rows)

-- ---- what refuses its words

abbrev InTurn : Option ErrWord → Type 0
InTurn o = IfSome o (λ word. uses_label Inside (reply.Refused word) ≡ true)

word_of : (b : Bool) (x y : Option ErrWord) → InTurn x → InTurn y → InTurn (if b then x else y)
word_of true x y g h = g
word_of false x y g h = h

refusal_used : (columns : List Column) (s : Statement) → InTurn (refusal_in columns s)
unfolding insert_refusal select_refusal update_refusal delete_refusal
refusal_used columns (statement.Begin begun) = tt
refusal_used columns statement.Commit = tt
refusal_used columns statement.Rollback = tt
refusal_used columns (statement.Insert table values) = word_of (have_sorts values columns) None (Some err.Type) tt refl
refusal_used columns (statement.Select table names e) =
    word_of (not (names_known columns names && cond_known columns e)) (Some err.Column) _ refl (word_of (not (is_condition columns e)) (Some err.Type) None refl tt)
refusal_used columns (statement.Update table sets e) =
    word_of (not (sets_known columns sets && cond_known columns e) || sets_twice sets) (Some err.Column) _ refl
    (word_of (sets_key columns sets) (Some err.Key) _ refl (word_of (not (sets_sorts columns sets && is_condition columns e)) (Some err.Type) None refl tt))
refusal_used columns (statement.Delete table e) =
    word_of (not (cond_known columns e)) (Some err.Column) _ refl (word_of (not (is_condition columns e)) (Some err.Type) None refl tt)

pub word_used : (columns : List Column) (s : Statement) (word : ErrWord) → refusal_in columns s ≡ Some word → uses_label Inside (reply.Refused word) ≡ true
word_used columns s word is = subst InTurn is (refusal_used columns s)

-- outside of a transaction what refuses the words of a statement uses no label
abbrev NoLabel : Option ErrWord → Type 0
NoLabel o = IfSome o (λ word. uses_label Outside (reply.Refused word) ≡ false)

unlabelled_of : (b : Bool) (x y : Option ErrWord) → NoLabel x → NoLabel y → NoLabel (if b then x else y)
unlabelled_of true x y g h = g
unlabelled_of false x y g h = h

refusal_unlabelled : (columns : List Column) (s : Statement) → NoLabel (refusal_in columns s)
unfolding insert_refusal select_refusal update_refusal delete_refusal
refusal_unlabelled columns (statement.Begin begun) = tt
refusal_unlabelled columns statement.Commit = tt
refusal_unlabelled columns statement.Rollback = tt
refusal_unlabelled columns (statement.Insert table values) = unlabelled_of (have_sorts values columns) None (Some err.Type) tt refl
refusal_unlabelled columns (statement.Select table names e) =
    unlabelled_of (not (names_known columns names && cond_known columns e)) (Some err.Column) _ refl (unlabelled_of (not (is_condition columns e)) (Some err.Type) None refl tt)
refusal_unlabelled columns (statement.Update table sets e) =
    unlabelled_of (not (sets_known columns sets && cond_known columns e) || sets_twice sets) (Some err.Column) _ refl
    (unlabelled_of (sets_key columns sets) (Some err.Key) _ refl (unlabelled_of (not (sets_sorts columns sets && is_condition columns e)) (Some err.Type) None refl tt))
refusal_unlabelled columns (statement.Delete table e) =
    unlabelled_of (not (cond_known columns e)) (Some err.Column) _ refl (unlabelled_of (not (is_condition columns e)) (Some err.Type) None refl tt)

pub word_unlabelled : (columns : List Column) (s : Statement) (word : ErrWord) → refusal_in columns s ≡ Some word → uses_label Outside (reply.Refused word) ≡ false
word_unlabelled columns s word is = subst NoLabel is (refusal_unlabelled columns s)
