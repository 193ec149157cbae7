-- Calls of an engine that are made where their conditions hold, and else passed over.
use Rattle.std.specs.Prelude.{◌≡◌, ℕ, ◌≤◌, List, [], ◌∷◌, ◌++◌, Option, Some, None, Bool, true, false, not, ◌||◌, ◌⊎◌, length}
use Rattle.sk_outside.specs.Causes.{Rose}
use Rattle.sk_model.specs.declared.call.EngineCall.{EngineCall}
use Rattle.sk_model.specs.declared.call.EngineCall.TheVariants as call
use Rattle.sk_model.specs.declared.call.EngineFault.TheVariants as fault
use Rattle.sk_model.specs.declared.call.EngineReply.{EngineReply}
use Rattle.sk_model.specs.declared.call.EngineReply.TheVariants.{Done, Found, Rows, Number, Commits, Fault}
use Rattle.sk_model.specs.declared.call.Entry.{Entry}
use Rattle.sk_model.specs.Engine.{EngineTable}
use Rattle.sk_model.specs.EngineConditions.{may}
use Rattle.sk_model.specs.Legal.{step, due, may_fail, after_entries, Legal}
use Rattle.sk_model.specs.Resembling.{Resembles}
use Rattle.sk_model.specs.Journal.{most_entries}
use Rattle.sk_chain.specs.declared.noted.Noted.{Noted}
use Rattle.sk_chain.specs.Promise.{entry_of, refused}
use Rattle.sk_chain.specs.Runs.{Made, entered_by, entries_by, engine_behind}
use Rattle.sk_chain.specs.Noting.{engine_of, journal_of, noted_stands}

-- the engine stands for some table
abbrev pub IsInUse : {S : Type 0} → (S → EngineTable → List Entry → Type 0) → S → Type 0
IsInUse stands s = (e : EngineTable) × (js : List Entry) × stands s e js

-- what is entered of a reply: want of memory is not
abbrev pub entered_reply : EngineReply → Option EngineReply
entered_reply Done = Some Done
entered_reply (Found row) = Some (Found row)
entered_reply (Rows rows) = Some (Rows rows)
entered_reply (Number n) = Some (Number n)
entered_reply (Commits commits) = Some (Commits commits)
entered_reply (Fault f) = refused f

-- the ends of an opening, and Horizon, take none
abbrev pub takes_memory : EngineCall → Bool
takes_memory (call.Open tx s) = true
takes_memory (call.Get tx t key) = true
takes_memory (call.Scan tx t) = true
takes_memory (call.Put tx t key row) = true
takes_memory (call.Close tx) = true
takes_memory (call.Stamp tx n) = false
takes_memory (call.Void tx n) = false
takes_memory (call.DropTx tx) = false
takes_memory call.Horizon = false
takes_memory (call.Records from to) = true
takes_memory (call.Purge upto) = true

-- a call that is passed over takes room for its entry
abbrev pub may_want : EngineTable → EngineCall → Bool
may_want e c = takes_memory c || not (may e c)

-- The reply is due, or a device failed a call that was made. Where the engine is not told what its device reads, rows of a call
-- that was made may be others that fit.
abbrev pub Answers : Bool → ℕ → ℕ → EngineTable → EngineCall → EngineReply → Type 0
Answers told before now e c reply =
    ((may_fail e c ≡ true) × (reply ≡ Fault fault.Device) × Rose before now)
    ⊎ ((due e c ≡ reply) ⊎ ((told ≡ false) × (may e c ≡ true) × Resembles e.catalog c (due e c) reply))

-- Behind a call that was entered the engine stands for the table that the entry makes, with that entry behind the others; where
-- memory was wanted in vain, all is as before.
abbrev pub Follows : Bool → ℕ → ℕ → (EngineTable → List Entry → Type 0) → EngineTable → List Entry → EngineCall → Option EngineReply → Type 0
Follows told before now stands e js c None = (may_want e c ≡ true) × stands e js
Follows told before now stands e js c (Some reply) = Answers told before now e c reply × stands (step e (entry_of c reply)) (js ++ entry_of c reply ∷ [])

-- the count of faults does not fall, and what follows is said of each table that the engine stood for, whether it allows the call or not
pub record Applies {S : Type 0} (told : Bool) (faults : S → ℕ) (stands : S → EngineTable → List Entry → Type 0) (old new : S) (c : EngineCall) (reply : Option EngineReply) : Type 0 where
  pub later : faults old ≤ faults new
  pub holds : (e : EngineTable) (js : List Entry) → stands old e js → Follows told (faults old) (faults new) (stands new) e js c reply

-- each call was applied to what the one before it left
abbrev pub AppliesAll : {S : Type 0} → Bool → (S → ℕ) → (S → EngineTable → List Entry → Type 0) → S → List (Made S) → Type 0
AppliesAll told faults stands s [] = Unit {0}
AppliesAll told faults stands s (m ∷ ms) = Applies told faults stands s m.behind m.call m.reply × AppliesAll told faults stands m.behind ms

-- From this table on the entries are legal, and the engine stands for the table behind them.
pub record IsLegalFrom {S : Type 0} (stands : S → EngineTable → List Entry → Type 0) (first : EngineTable) (js : List Entry) (s : S) : Type 0 where
  pub legal : Legal first js
  pub stood : stands s (after_entries first js) js

-- of an engine that is told what its device reads, each applied call keeps the entries legal
abbrev pub AppliedStaysLegal : {S : Type 0} → Bool → (S → ℕ) → (S → EngineTable → List Entry → Type 0) → Type 0
AppliedStaysLegal {S} told faults stands = told ≡ true → (old new : S) (c : EngineCall) (reply : Option EngineReply) (first : EngineTable) (js : List Entry) → IsLegalFrom stands first js old
    → Applies told faults stands old new c reply → IsLegalFrom stands first (js ++ entered_by c reply) new

-- the journal is made of just these calls, each with the reply that is due
pub record IsLegalJournal (e : EngineTable) (made entries : List Entry) : Type 0 where
  pub is : entries ≡ made
  pub legal : Legal e entries

-- For every list of calls, whether their conditions hold or not, the journal is made of just these calls, and legal, as long as a journal can have as many entries.
abbrev pub AppliedIsLegal : {G : Type 0} → Bool → (G → ℕ) → (G → EngineTable → List Entry → Type 0) → Type 0
AppliedIsLegal {G} told faults stands = told ≡ true → (s : Noted G) (e : EngineTable) (ms : List (Made (Noted G))) → noted_stands stands s e []
    → AppliesAll told (λ x. faults (engine_of x)) (noted_stands stands) s ms → length (entries_by ms) ≤ most_entries
    → IsLegalJournal e (entries_by ms) (journal_of (engine_behind s ms))
