-- What one database replies to a statement, and what the statement writes: what refuses it whatever rows there are, which rows it
-- reads, and what it comes to over these.
use Rattle.std.specs.Prelude.{ℕ, List, [], ◌∷◌, length, Option, Some, None, Bool, true, false, ◌&&◌, ◌||◌, not, if◌then◌else◌, nat_le, sum_by, map, get_or, Result, Ok, Err}
use Rattle.std.specs.List.{list_all}
use Rattle.std.specs.Option.{option_map}
use Rattle.sk_rows.specs.declared.value.Value.{Value}
use Rattle.sk_rows.specs.declared.value.Value.TheVariants as value
use Rattle.sk_rows.specs.declared.table.Column.{Column}
use Rattle.sk_rows.specs.declared.table.Table.{Table}
use Rattle.sk_rows.specs.declared.expr.Expr.{Expr}
use Rattle.sk_rows.specs.declared.statement.SetItem.{SetItem}
use Rattle.sk_rows.specs.declared.statement.Statement.{Statement}
use Rattle.sk_rows.specs.declared.statement.Statement.TheVariants as statement
use Rattle.sk_rows.specs.declared.faults.ValueFault.{ValueFault}
use Rattle.sk_rows.specs.Values.{encoded_len}
use Rattle.sk_rows.specs.Evaluation.{◌>>=◌}
use Rattle.sk_rows.specs.Limits.{longest_row}
use Rattle.sk_model.specs.declared.commit.Write.{Write}
use Rattle.sk_model.specs.declared.reply.ErrWord.{ErrWord}
use Rattle.sk_model.specs.declared.reply.ErrWord.TheVariants as err
use Rattle.sk_model.specs.declared.reply.Reply.{Reply}
use Rattle.sk_model.specs.declared.reply.Reply.TheVariants as reply
use Rattle.sk_model.specs.Database.{RowOf, KeyedRows, Tables, table_of}
use Rattle.sk_model.specs.Names.{table_at, columns_at, cond_known, names_known, sets_known, sets_twice, sets_key}
use Rattle.sk_model.specs.Sorts.{have_sorts, is_condition, sets_sorts}
use Rattle.sk_model.specs.Reads.{key_asked, rows_read, rows_met, picked}
use Rattle.sk_model.specs.Changes.{new_rows}

-- a reply, and the writes that come with it
abbrev pub Answer : Type 0
Answer = Reply × List Write

-- a refusal writes nothing
abbrev pub refused : ErrWord → Answer
refused word = (reply.Refused word, [])

abbrev pub row_put : ℕ → Value × RowOf → Write
row_put t r = record { table = t; key = r.0; row = Some r.1 }

abbrev pub row_gone : ℕ → Value × RowOf → Write
row_gone t r = record { table = t; key = r.0; row = None }

-- it is not too long for a file
abbrev pub has_room : RowOf → Bool
has_room row = nat_le (sum_by encoded_len row) longest_row

abbrev pub key_of : RowOf → Value
key_of row = get_or row 0 (value.Bool false)

-- why INSERT of these values is refused whatever rows there are
unfoldable pub insert_refusal : List Column → List Value → Option ErrWord
insert_refusal columns values = if have_sorts values columns then None else Some err.Type

-- why SELECT of these columns is refused whatever rows there are
unfoldable pub select_refusal : List Column → Option (List (List ℕ)) → Option Expr → Option ErrWord
select_refusal columns names e =
    if not (names_known columns names && cond_known columns e) then Some err.Column
    else if not (is_condition columns e) then Some err.Type
    else None

-- why UPDATE of these columns is refused whatever rows there are
unfoldable pub update_refusal : List Column → List SetItem → Option Expr → Option ErrWord
update_refusal columns sets e =
    if not (sets_known columns sets && cond_known columns e) || sets_twice sets then Some err.Column
    else if sets_key columns sets then Some err.Key
    else if not (sets_sorts columns sets && is_condition columns e) then Some err.Type
    else None

-- why DELETE is refused whatever rows there are
unfoldable pub delete_refusal : List Column → Option Expr → Option ErrWord
delete_refusal columns e =
    if not (cond_known columns e) then Some err.Column
    else if not (is_condition columns e) then Some err.Type
    else None

-- why a statement is refused whatever rows its table has
abbrev pub refusal_in : List Column → Statement → Option ErrWord
refusal_in columns (statement.Begin begun) = None
refusal_in columns statement.Commit = None
refusal_in columns statement.Rollback = None
refusal_in columns (statement.Insert table values) = insert_refusal columns values
refusal_in columns (statement.Select table names e) = select_refusal columns names e
refusal_in columns (statement.Update table sets e) = update_refusal columns sets e
refusal_in columns (statement.Delete table e) = delete_refusal columns e

-- the one key that a statement reads, or none where it reads all rows
abbrev pub key_read : List Column → Statement → Option Value
key_read columns (statement.Begin begun) = None
key_read columns statement.Commit = None
key_read columns statement.Rollback = None
key_read columns (statement.Insert table values) = Some (key_of values)
key_read columns (statement.Select table names e) = key_asked columns e
key_read columns (statement.Update table sets e) = key_asked columns e
key_read columns (statement.Delete table e) = key_asked columns e

-- INSERT of these values, where these rows of its key were found
abbrev pub inserted : ℕ → List Value → KeyedRows → Answer
inserted t values [] = if has_room values then (reply.Count 1, row_put t (key_of values, values) ∷ []) else refused err.Size
inserted t values (r ∷ rs) = refused err.Duplicate

-- these rows were found, or a condition overflowed
abbrev pub select_answer : List Column → Option (List (List ℕ)) → Result KeyedRows ValueFault → Answer
select_answer columns names (Err fault) = refused err.Overflow
select_answer columns names (Ok rows) = (reply.Rows (map (λ r. picked columns names r.1) rows), [])

-- these are the new rows, or something overflowed
abbrev pub updated : ℕ → Result KeyedRows ValueFault → Answer
updated t (Err fault) = refused err.Overflow
updated t (Ok rows) = if list_all (λ r. has_room r.1) rows then (reply.Count (length rows), map (row_put t) rows) else refused err.Size

-- these rows are to go, or a condition overflowed
abbrev pub deleted : ℕ → Result KeyedRows ValueFault → Answer
deleted t (Err fault) = refused err.Overflow
deleted t (Ok rows) = (reply.Count (length rows), map (row_gone t) rows)

-- what a statement that is not refused comes to, over the rows that it read of table t
abbrev pub comes_to : List Column → ℕ → Statement → KeyedRows → Answer
comes_to columns t (statement.Begin begun) rows = refused err.Table
comes_to columns t statement.Commit rows = refused err.Table
comes_to columns t statement.Rollback rows = refused err.Table
comes_to columns t (statement.Insert table values) rows = inserted t values rows
comes_to columns t (statement.Select table names e) rows = select_answer columns names (rows_met columns e rows)
comes_to columns t (statement.Update table sets e) rows = updated t (rows_met columns e rows >>= new_rows columns sets)
comes_to columns t (statement.Delete table e) rows = deleted t (rows_met columns e rows)

-- the answer of a table with these rows, where this refuses the statement before they are read
abbrev pub answer_in : List Column → ℕ → Statement → KeyedRows → Option ErrWord → Answer
answer_in columns t s rows (Some word) = refused word
answer_in columns t s rows None = comes_to columns t s (rows_read rows (key_read columns s))

-- the answer of a table, where it is there
abbrev pub answer_on : List Table → Tables → Statement → Option ℕ → Answer
answer_on catalog db s None = refused err.Table
answer_on catalog db s (Some t) = answer_in (columns_at catalog t) t s (table_of db t) (refusal_in (columns_at catalog t) s)

-- the table that a statement names, where it is the database that answers
abbrev pub target_table : Statement → Option (List ℕ)
target_table (statement.Begin begun) = None
target_table statement.Commit = None
target_table statement.Rollback = None
target_table (statement.Insert table values) = Some table
target_table (statement.Select table names e) = Some table
target_table (statement.Update table sets e) = Some table
target_table (statement.Delete table e) = Some table

-- what the database answers, where it is the database that answers
abbrev pub answer_of : List Table → Tables → Statement → Option Answer
answer_of catalog db s = option_map (λ name. answer_on catalog db s (table_at catalog name)) (target_table s)

abbrev pub reply_of : List Table → Tables → Statement → Option Reply
reply_of catalog db s = option_map (λ a. a.0) (answer_of catalog db s)

abbrev pub writes_in : Option Answer → List Write
writes_in None = []
writes_in (Some a) = a.1

abbrev pub writes_of : List Table → Tables → Statement → List Write
writes_of catalog db s = writes_in (answer_of catalog db s)

-- the refusals that the database itself decides
abbrev pub is_judged_word : ErrWord → Bool
is_judged_word err.Table = true
is_judged_word err.Column = true
is_judged_word err.Key = true
is_judged_word err.Type = true
is_judged_word err.Overflow = true
is_judged_word err.Duplicate = true
is_judged_word err.Size = true
is_judged_word _ = false

-- the replies that the database itself gives
abbrev pub is_judged : Reply → Bool
is_judged (reply.Count n) = true
is_judged (reply.Rows rows) = true
is_judged (reply.Refused word) = is_judged_word word
is_judged _ = false

abbrev pub is_count : Reply → Bool
is_count (reply.Count n) = true
is_count _ = false
