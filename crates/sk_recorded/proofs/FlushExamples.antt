-- Two flushes of a worked run: 1.1 commits over both engines at 1 and 1; while 2.1, which has closed both, has its stamps still to come, a
-- flush cuts at 1 and 1; then 2.1 is stamped with 2 and 2, and a second flush goes on to there. Table 0 is a memory table, table 1 a storage table.
use Rattle.std.specs.Prelude.{◌≡◌, ℕ, List, [], ◌∷◌, ◌++◌, Some, None, true, false, ◌≤◌, pos}
use Rattle.std.proofs.Common.{refl, inl, inr, arith}
use Rattle.sk_rows.specs.declared.value.Value.{Value}
use Rattle.sk_rows.specs.declared.value.Value.TheVariants as value
use Rattle.sk_rows.specs.declared.value.Sort.TheVariants as sort
use Rattle.sk_rows.specs.declared.table.Column.{Column}
use Rattle.sk_rows.specs.declared.table.Table.{Table}
use Rattle.sk_model.specs.declared.label.Label.{Label}
use Rattle.sk_model.specs.declared.engine.EngineName.{EngineName}
use Rattle.sk_model.specs.declared.engine.EngineName.TheVariants.{Mem, Store}
use Rattle.sk_model.specs.declared.commit.Write.{Write}
use Rattle.sk_model.specs.declared.commit.Commit.{Commit}
use Rattle.sk_model.specs.declared.point.Point.{Point}
use Rattle.sk_model.specs.declared.call.EngineCall.{EngineCall}
use Rattle.sk_model.specs.declared.call.EngineCall.TheVariants as call
use Rattle.sk_model.specs.declared.call.Entry.{Entry}
use Rattle.sk_model.specs.Database.{KeyedRows, state}
use Rattle.sk_model.specs.Engine.{EngineTable, engine_at, write_at}
use Rattle.sk_model.specs.EngineReplies.{commits_between}
use Rattle.sk_model.specs.Legal.{due, step, after_entries}
use Rattle.sk_weave.specs.Points.{selection, commit_point}
use Rattle.sk_linked.specs.Reads.{number_at}
use Rattle.sk_linked.specs.Traces.{In}
use Rattle.sk_recorded.specs.Joined.{joined}
use Rattle.sk_recorded.specs.Entries.{records_entry, AreEnough}
use Rattle.sk_recorded.specs.Flushes.{Flush, AllFlush, last_cut, written}

abbrev column : Column
column = record { name = 105 ∷ []; sort = sort.Int }

abbrev catalog : List Table
catalog = record { name = 97 ∷ []; store = false; columns = column ∷ [] } ∷ record { name = 98 ∷ []; store = true; columns = column ∷ [] } ∷ []

abbrev first_txn : Label
first_txn = record { session = 1; k = 1 }

abbrev second_txn : Label
second_txn = record { session = 2; k = 1 }

abbrev int : ℕ → Value
int n = value.Int (pos n)

abbrev table_in : EngineName → ℕ
table_in Mem = 0
table_in Store = 1

-- ---- the journals

abbrev calls : EngineName → List EngineCall
calls name =
    call.Open first_txn 0 ∷ call.Put first_txn (table_in name) (int 7) (Some (int 7 ∷ [])) ∷ call.Close first_txn ∷ call.Stamp first_txn 1
    ∷ call.Open second_txn 1 ∷ call.Put second_txn (table_in name) (int 8) (Some (int 8 ∷ [])) ∷ call.Close second_txn
    ∷ call.Records 0 1 ∷ call.Purge 1 ∷ call.Stamp second_txn 2 ∷ call.Records 1 2 ∷ []

abbrev start : EngineName → EngineTable
start name = engine_at name catalog ([] ∷ [] ∷ []) 0

-- each call with its right reply
abbrev journal : EngineTable → List EngineCall → List Entry
journal e [] = []
journal e (c ∷ cs) = record { call = c; reply = due e c } ∷ journal (step e record { call = c; reply = due e c }) cs

abbrev journals : EngineName → List Entry
journals name = journal (start name) (calls name)

-- ---- what was told

abbrev row_at : EngineName → ℕ → Write
row_at name n = write_at (table_in name) (int n) (Some (int n ∷ []))

abbrev told_one : EngineName → Commit
told_one Mem = record { label = first_txn; mem = Some 1; store = None; writes = row_at Mem 7 ∷ [] }
told_one Store = record { label = first_txn; mem = None; store = Some 1; writes = row_at Store 7 ∷ [] }

abbrev told_two : EngineName → Commit
told_two Mem = record { label = second_txn; mem = Some 2; store = None; writes = row_at Mem 8 ∷ [] }
told_two Store = record { label = second_txn; mem = None; store = Some 2; writes = row_at Store 8 ∷ [] }

-- what the first flush was answered is told at the end too, when there is more
told_then : commits_between (after_entries (start Mem) (journals Mem)) 0 1 ≡ told_one Mem ∷ []
told_then = refl

all_told : commits_between (after_entries (start Mem) (journals Mem)) 0 2 ≡ told_one Mem ∷ told_two Mem ∷ []
all_told = refl

-- ---- the points

abbrev points : List Point
points = selection 0 0 ∷ commit_point 1 1 ∷ commit_point 2 2 ∷ []

-- the second flush joins by the points from its first cut on
abbrev one : Flush
one = record { cut = commit_point 1 1; points = selection 0 0 ∷ commit_point 1 1 ∷ []; answers = λ name. told_one name ∷ [] }

abbrev two : Flush
two = record { cut = commit_point 2 2; points = commit_point 1 1 ∷ commit_point 2 2 ∷ []; answers = λ name. told_two name ∷ [] }

abbrev zero_point : Point
zero_point = selection 0 0

enough_one : (name : EngineName) → AreEnough name points one.points (number_at name zero_point) (number_at name one.cut)
enough_one Mem = record { early = []; later = commit_point 2 2 ∷ []; are = refl; before = tt; reached = commit_point 1 1; among = inr (inl refl); far = omega arith }
enough_one Store = record { early = []; later = commit_point 2 2 ∷ []; are = refl; before = tt; reached = commit_point 1 1; among = inr (inl refl); far = omega arith }

enough_two : (name : EngineName) → AreEnough name points two.points (number_at name one.cut) (number_at name two.cut)
enough_two Mem = record { early = zero_point ∷ []; later = []; are = refl; before = (omega arith, tt); reached = commit_point 2 2; among = inr (inl refl); far = omega arith }
enough_two Store = record { early = zero_point ∷ []; later = []; are = refl; before = (omega arith, tt); reached = commit_point 2 2; among = inr (inl refl); far = omega arith }

-- ---- the flushes

goes_one : (name : EngineName) → number_at name zero_point ≤ number_at name one.cut
goes_one Mem = omega arith
goes_one Store = omega arith

goes_two : (name : EngineName) → number_at name one.cut ≤ number_at name two.cut
goes_two Mem = omega arith
goes_two Store = omega arith

asked_one : (name : EngineName) → In (records_entry (number_at name zero_point) (number_at name one.cut) (one.answers name)) (journals name)
asked_one Mem = inr (inr (inr (inr (inr (inr (inr (inl refl)))))))
asked_one Store = inr (inr (inr (inr (inr (inr (inr (inl refl)))))))

asked_two : (name : EngineName) → In (records_entry (number_at name one.cut) (number_at name two.cut) (two.answers name)) (journals name)
asked_two Mem = inr (inr (inr (inr (inr (inr (inr (inr (inr (inr (inl refl))))))))))
asked_two Store = inr (inr (inr (inr (inr (inr (inr (inr (inr (inr (inl refl))))))))))

all_flush : AllFlush points journals zero_point (one ∷ two ∷ [])
all_flush = (
  record { cut = inr (inl refl); goes_on = goes_one; asked = asked_one; enough = enough_one },
  (record { cut = inr (inr (inl refl)); goes_on = goes_two; asked = asked_two; enough = enough_two }, tt),
)

-- what they wrote has both numbers of each commit, and each commit once
abbrev both : Label → ℕ → Write → Commit
both l n w = record { label = l; mem = Some n; store = Some n; writes = w ∷ [] }

wrote : (name : EngineName) → written name (one ∷ two ∷ []) ≡ both first_txn 1 (row_at name 7) ∷ both second_txn 2 (row_at name 8) ∷ []
wrote Mem = refl
wrote Store = refl

up_to : last_cut zero_point (one ∷ two ∷ []) ≡ commit_point 2 2
up_to = refl

-- by the points of its moment the first flush joins as by all points
same : joined Store one.points (told_one Store ∷ []) ≡ joined Store points (told_one Store ∷ [])
same = refl

-- but not by points that do not reach its cut
not_enough : joined Store (zero_point ∷ []) (told_one Store ∷ []) ≡ told_one Store ∷ []
not_enough = refl

-- ---- behind what the logs had before

-- an earlier run committed 6 in both engines
abbrev earlier : EngineName → Commit
earlier name = both (record { session = 3; k = 1 }) 1 (row_at name 6)

abbrev rows_then : KeyedRows
rows_then = (int 6, int 6 ∷ []) ∷ (int 7, int 7 ∷ []) ∷ (int 8, int 8 ∷ []) ∷ []

behind : state ([] ∷ [] ∷ []) ((earlier Mem ∷ written Mem (one ∷ two ∷ [])) ++ (earlier Store ∷ written Store (one ∷ two ∷ []))) ≡ rows_then ∷ rows_then ∷ []
behind = refl
