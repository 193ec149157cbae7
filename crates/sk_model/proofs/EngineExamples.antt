-- The table of an engine, computed at a worked list of calls: one memory table with two columns of numbers.
use Rattle.std.specs.Prelude.{ℕ, List, map, length, [], ◌∷◌, Some, None, true, false, ◌≡◌, pos}
use Rattle.std.proofs.Common.{refl}
use Rattle.sk_rows.specs.declared.value.Value.{Value}
use Rattle.sk_rows.specs.declared.value.Value.TheVariants as value
use Rattle.sk_rows.specs.declared.value.Sort.TheVariants as sort
use Rattle.sk_rows.specs.declared.table.Column.{Column}
use Rattle.sk_rows.specs.declared.table.Table.{Table}
use Rattle.sk_model.specs.declared.label.Label.{Label}
use Rattle.sk_model.specs.declared.engine.EngineName.TheVariants.{Mem}
use Rattle.sk_model.specs.declared.reply.Why.TheVariants as why
use Rattle.sk_model.specs.declared.call.EngineCall.{EngineCall}
use Rattle.sk_model.specs.declared.call.EngineCall.TheVariants as call
use Rattle.sk_model.specs.declared.call.EngineFault.TheVariants as fault
use Rattle.sk_model.specs.declared.call.EngineReply.{EngineReply}
use Rattle.sk_model.specs.declared.call.EngineReply.TheVariants as reply
use Rattle.sk_model.specs.declared.call.Entry.{Entry}
use Rattle.sk_model.specs.Database.{RowOf}
use Rattle.sk_model.specs.Engine.{EngineTable, engine_at, write_at}
use Rattle.sk_model.specs.Legal.{due, step, after_entries}

abbrev lab : ℕ → ℕ → Label
lab s k = record { session = s; k = k }

abbrev int_column : ℕ → Column
int_column letter = record { name = letter ∷ []; sort = sort.Int }

abbrev catalog : List Table
catalog = record { name = 97 ∷ []; store = false; columns = int_column 105 ∷ int_column 118 ∷ [] } ∷ []

abbrev start : EngineTable
start = engine_at Mem catalog ([] ∷ []) 0

abbrev int : ℕ → Value
int n = value.Int (pos n)

abbrev int_row : ℕ → ℕ → RowOf
int_row key v = int key ∷ int v ∷ []

-- the journal of these calls, each with its right reply
abbrev journal : EngineTable → List EngineCall → List Entry
journal e [] = []
journal e (c ∷ cs) = record { call = c; reply = due e c } ∷ journal (step e record { call = c; reply = due e c }) cs

abbrev answers : EngineTable → List EngineCall → List EngineReply
answers e cs = map (λ (j : Entry). j.reply) (journal e cs)

-- a reader past the floor waits, one at the floor does not, and after the stamp the first sees the row
abbrev waiting : List EngineCall
waiting = call.Open (lab 1 1) 0 ∷ call.Put (lab 1 1) 0 (int 1) (Some (int_row 1 1)) ∷ call.Close (lab 1 1) ∷ call.Open (lab 2 1) 1 ∷ call.Get (lab 2 1) 0 (int 1)
    ∷ call.Open (lab 3 1) 0 ∷ call.Get (lab 3 1) 0 (int 1) ∷ call.Stamp (lab 1 1) 1 ∷ call.Get (lab 2 1) 0 (int 1) ∷ call.Horizon ∷ []

waits : answers start waiting
    ≡ (reply.Done ∷ reply.Done ∷ reply.Number 0 ∷ reply.Done ∷ reply.Fault (fault.Busy (lab 1 1))
    ∷ reply.Done ∷ reply.Found None ∷ reply.Done ∷ reply.Found (Some (int_row 1 1)) ∷ reply.Number 1 ∷ [])
waits = refl

waits_ten : length (journal start waiting) ≡ 10
waits_ten = refl

-- the commit with its one write; no purge past the oldest snapshot; and the table as the first reader sees it
follows : answers (after_entries start (journal start waiting)) (call.Records 0 1 ∷ call.Purge 1 ∷ call.Scan (lab 2 1) 0 ∷ [])
    ≡ (reply.Commits (record { label = lab 1 1; mem = Some 1; store = None; writes = write_at 0 (int 1) (Some (int_row 1 1)) ∷ [] } ∷ [])
    ∷ reply.Number 0 ∷ reply.Rows ((int 1, int_row 1 1) ∷ []) ∷ [])
follows = refl

-- two writers of one row, and one whose snapshot is too old
conflicts : answers start (
    call.Open (lab 1 1) 0 ∷ call.Open (lab 2 1) 0 ∷ call.Put (lab 1 1) 0 (int 1) (Some (int_row 1 5)) ∷ call.Put (lab 2 1) 0 (int 1) None ∷ call.Close (lab 1 1)
    ∷ call.Put (lab 2 1) 0 (int 1) None ∷ call.Stamp (lab 1 1) 1 ∷ call.Put (lab 2 1) 0 (int 1) None ∷ call.DropTx (lab 2 1) ∷ call.Purge 1 ∷ call.Open (lab 3 1) 0 ∷ [])
    ≡ (reply.Done ∷ reply.Done ∷ reply.Done ∷ reply.Fault (fault.Conflict (lab 1 1) why.Open) ∷ reply.Number 0
    ∷ reply.Fault (fault.Conflict (lab 1 1) why.Closed) ∷ reply.Done ∷ reply.Fault (fault.Conflict (lab 1 1) (why.Past 1 0)) ∷ reply.Done ∷ reply.Number 1
    ∷ reply.Fault (fault.Old 0 1) ∷ [])
conflicts = refl

-- calls whose condition does not hold: an unknown table, a key and a row of another sort, a label with no opening
turned_down : answers start (
    call.Open (lab 1 1) 0 ∷ call.Get (lab 1 1) 1 (int 1) ∷ call.Get (lab 1 1) 0 (value.Bool true) ∷ call.Put (lab 1 1) 0 (int 1) (Some (int_row 2 2))
    ∷ call.Put (lab 1 1) 0 (int 1) (Some (int 1 ∷ [])) ∷ call.Scan (lab 2 1) 0 ∷ call.Close (lab 2 1) ∷ call.Records 0 1 ∷ call.Scan (lab 1 1) 0 ∷ [])
    ≡ (reply.Done ∷ reply.Found None ∷ reply.Found None ∷ reply.Done ∷ reply.Done ∷ reply.Rows [] ∷ reply.Number 0 ∷ reply.Commits [] ∷ reply.Rows [] ∷ [])
turned_down = refl
