-- An engine with the journal of a run.
use Rattle.std.specs.Prelude.{◌≡◌, ◌≤◌, List, [], ◌++◌, Bool, true, false, Result, Ok, Err, length}
use Rattle.sk_model.specs.declared.call.EngineCall.{EngineCall}
use Rattle.sk_model.specs.declared.call.EngineCall.TheVariants as call
use Rattle.sk_model.specs.declared.call.EngineReply.{EngineReply}
use Rattle.sk_model.specs.declared.call.Entry.{Entry}
use Rattle.sk_model.specs.Engine.{EngineTable}
use Rattle.sk_model.specs.EngineConditions.{may}
use Rattle.sk_model.specs.Legal.{after_entries}
use Rattle.sk_model.specs.Journal.{most_entries}
use Rattle.sk_chain.specs.declared.noted.Noted.{Noted}
use Rattle.sk_chain.specs.Noting.{journal_of, noted_stands}
use Rattle.sk_chain.specs.Runs.{entered_by}
use Rattle.sk_chain.specs.Applying.{IsLegalFrom, entered_reply}

-- The journal has just these entries, each with the reply that is right from this first table on, and the engine stands for the table behind them.
pub record Keeps {G : Type 0} (stands : G → EngineTable → List Entry → Type 0) (x : Noted G) (first : EngineTable) (js : List Entry) : Type 0 where
  pub from : IsLegalFrom (noted_stands stands) first js x
  pub few : length js ≤ most_entries
  pub journal : journal_of x ≡ js

-- it does so for some first table
abbrev pub IsKept : {G : Type 0} → (G → EngineTable → List Entry → Type 0) → Noted G → Type 0
IsKept stands x = (first : EngineTable) × (js : List Entry) × Keeps stands x first js

-- the entry of a call, where it was answered
abbrev pub entered_with : {E : Type 0} → EngineCall → Result EngineReply E → List Entry
entered_with asked (Ok reply) = entered_by asked (entered_reply reply)
entered_with asked (Err e) = []

-- whatever the first table, the journal has the entry of the call behind the others
abbrev pub Asks : {G E : Type 0} → (G → EngineTable → List Entry → Type 0) → Noted G → EngineCall → Result EngineReply E → Noted G → Type 0
Asks stands old asked result new = (first : EngineTable) (js : List Entry) → Keeps stands old first js → Keeps stands new first (js ++ entered_with asked result)

-- a commit may begin with this call
abbrev pub is_close : EngineCall → Bool
is_close (call.Close tx) = true
is_close _ = false

-- whatever the first table, the call may be made behind the entries
abbrev pub MayMake : {G : Type 0} → (G → EngineTable → List Entry → Type 0) → Noted G → EngineCall → Type 0
MayMake stands x asked = (first : EngineTable) (js : List Entry) → Keeps stands x first js → may (after_entries first js) asked ≡ true
