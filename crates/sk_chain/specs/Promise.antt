-- What each call of an engine promises.
use Rattle.std.specs.Prelude.{◌≡◌, ℕ, ◌≤◌, List, [], ◌∷◌, ◌++◌, Option, Some, None, Result, Ok, Err, Bool, true, false, ◌⊎◌}
use Rattle.sk_outside.specs.Causes.{Rose}
use Rattle.sk_model.specs.declared.call.EngineCall.{EngineCall}
use Rattle.sk_model.specs.declared.call.EngineFault.{EngineFault}
use Rattle.sk_model.specs.declared.call.EngineFault.TheVariants as fault
use Rattle.sk_model.specs.declared.call.EngineReply.{EngineReply}
use Rattle.sk_model.specs.declared.call.EngineReply.TheVariants.{Fault}
use Rattle.sk_model.specs.declared.call.Entry.{Entry}
use Rattle.sk_model.specs.Engine.{EngineTable}
use Rattle.sk_model.specs.EngineConditions.{may}
use Rattle.sk_model.specs.Legal.{step, due, touches}
use Rattle.sk_model.specs.Resembling.{Resembles}

-- a refusal as a reply; want of memory is none
abbrev pub refused : EngineFault → Option EngineReply
refused fault.NoMemory = None
refused f = Some (Fault f)

-- a result as a reply
abbrev pub replied : {X : Type 0} → (X → EngineReply) → Result X EngineFault → Option EngineReply
replied reply (Ok x) = Some (reply x)
replied reply (Err f) = refused f

abbrev pub entry_of : EngineCall → EngineReply → Entry
entry_of call reply = record { call = call; reply = reply }

-- the engine stands for a table that allows the call
abbrev pub Meets : {S : Type 0} → (S → EngineTable → List Entry → Type 0) → S → EngineCall → Type 0
Meets stands s call = (e : EngineTable) × (js : List Entry) × stands s e js × (may e call ≡ true)

-- The reply is the one of the table, or where a page is touched the fault of a device that was counted. Where the engine is
-- not told what its device reads, rows may be others that fit.
abbrev pub Replies : Bool → ℕ → ℕ → EngineTable → EngineCall → EngineReply → Type 0
Replies told before now e call reply =
    ((touches call ≡ true) × (reply ≡ Fault fault.Device) × Rose before now)
    ⊎ ((due e call ≡ reply) ⊎ ((told ≡ false) × Resembles e.catalog call (due e call) reply))

-- Behind a call that was entered the engine stands for the table that the call makes, and the entry is behind the others;
-- where memory was wanted, all is as before.
abbrev pub Leaves : Bool → ℕ → ℕ → (EngineTable → List Entry → Type 0) → EngineTable → List Entry → EngineCall → Option EngineReply → Type 0
Leaves told before now stands e js call None = stands e js
Leaves told before now stands e js call (Some reply) = Replies told before now e call reply × stands (step e (entry_of call reply)) (js ++ entry_of call reply ∷ [])

-- the count of faults does not fall, and what the call leaves is said of each table that the engine stood for and that allows it
pub record Serves {S : Type 0} (told : Bool) (faults : S → ℕ) (stands : S → EngineTable → List Entry → Type 0) (old new : S) (call : EngineCall) (reply : Option EngineReply) : Type 0 where
  pub later : faults old ≤ faults new
  pub holds : (e : EngineTable) (js : List Entry) → stands old e js → may e call ≡ true → Leaves told (faults old) (faults new) (stands new) e js call reply
