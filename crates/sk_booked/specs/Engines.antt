-- An engine with a journal, as a value with one.
use Rattle.std.specs.Prelude.{◌≡◌, ℕ, ◌≤◌, ◌<◌, List, Bool, true, map, length}
use Rattle.std.proofs.Common.{le_refl}
use Rattle.sk_model.specs.declared.call.EngineCall.{EngineCall}
use Rattle.sk_model.specs.declared.call.EngineCall.TheVariants as call
use Rattle.sk_model.specs.declared.call.EngineFault.{EngineFault}
use Rattle.sk_model.specs.declared.call.EngineFault.TheVariants as fault
use Rattle.sk_model.specs.declared.call.EngineReply.{EngineReply}
use Rattle.sk_model.specs.declared.call.EngineReply.TheVariants.{Done, Found, Rows, Number, Commits, Fault}
use Rattle.sk_model.specs.declared.call.Entry.{Entry}
use Rattle.sk_model.specs.Engine.{EngineTable}
use Rattle.sk_model.specs.EngineReplies.{horizon_of}
use Rattle.sk_model.specs.Legal.{after_entries, Legal}
use Rattle.sk_model.specs.Journal.{most_entries}
use Rattle.sk_chain.specs.declared.noted.Noted.{Noted}
use Rattle.sk_chain.specs.Noting.{engine_of, journal_of, noted_stands}
use Rattle.sk_chain.specs.Applying.{Applies, entered_reply}

abbrev pub pair_of : Entry → EngineCall × EngineReply
pair_of j = (j.call, j.reply)

-- the journal, each entry as a pair
abbrev pub pairs_of : {G : Type 0} → Noted G → List (EngineCall × EngineReply)
pairs_of x = map pair_of (journal_of x)

-- The engine was this table when it was made: it stands for what its journal makes of the table. Where it is told what its device reads, the journal is legal.
pub record MadeWith {G : Type 0} (told : Bool) (stands : G → EngineTable → List Entry → Type 0) (x : Noted G) (first : EngineTable) : Type 0 where
  pub stood : noted_stands stands x (after_entries first (journal_of x)) (journal_of x)
  pub legal : told ≡ true → Legal first (journal_of x)

-- whatever table the one was made with, the other was made with; and the device has failed it no less often
pub record Descends {G : Type 0} (told : Bool) (faults : G → ℕ) (stands : G → EngineTable → List Entry → Type 0) (x y : Noted G) : Type 0 where
  pub later : faults (engine_of x) ≤ faults (engine_of y)
  pub made : (first : EngineTable) → MadeWith told stands x first → MadeWith told stands y first

pub descends_self : {G : Type 0} (told : Bool) (faults : G → ℕ) (stands : G → EngineTable → List Entry → Type 0) (x : Noted G) → Descends told faults stands x x
descends_self told faults stands x = record { later = le_refl (faults (engine_of x)); made = λ first m. m }

-- unless the journal is as long as one can be, the call is applied
abbrev pub Gives : {G : Type 0} → Bool → (G → ℕ) → (G → EngineTable → List Entry → Type 0) → Noted G → EngineCall → EngineReply → Noted G → Type 0
Gives told faults stands x c reply y = length (journal_of x) < most_entries → Applies told (λ z. faults (engine_of z)) (noted_stands stands) x y c (entered_reply reply)

abbrev pub IsOld : EngineFault → Type 0
IsOld (fault.Old s h) = Unit {0}
IsOld _ = ⊥

abbrev pub IsWait : EngineFault → Type 0
IsWait (fault.Busy by) = Unit {0}
IsWait fault.Device = Unit {0}
IsWait _ = ⊥

abbrev pub IsLost : EngineFault → Type 0
IsLost (fault.Conflict by why) = Unit {0}
IsLost fault.Device = Unit {0}
IsLost _ = ⊥

abbrev pub IsDevice : EngineFault → Type 0
IsDevice fault.Device = Unit {0}
IsDevice _ = ⊥

-- the reply to a call that was entered: one of the call's kind, or a refusal that it may have
abbrev pub Enters : EngineCall → EngineReply → Type 0
Enters (call.Open tx s) Done = Unit {0}
Enters (call.Open tx s) (Fault f) = IsOld f
Enters (call.Get tx t key) (Found row) = Unit {0}
Enters (call.Get tx t key) (Fault f) = IsWait f
Enters (call.Scan tx t) (Rows rows) = Unit {0}
Enters (call.Scan tx t) (Fault f) = IsWait f
Enters (call.Put tx t key row) Done = Unit {0}
Enters (call.Put tx t key row) (Fault f) = IsLost f
Enters (call.Close tx) (Number n) = Unit {0}
Enters (call.Stamp tx n) Done = Unit {0}
Enters (call.Void tx n) Done = Unit {0}
Enters (call.DropTx tx) Done = Unit {0}
Enters call.Horizon (Number n) = Unit {0}
Enters (call.Records from to) (Commits cs) = Unit {0}
Enters (call.Records from to) (Fault f) = IsDevice f
Enters (call.Purge upto) (Number n) = Unit {0}
Enters (call.Purge upto) (Fault f) = IsDevice f
Enters _ _ = ⊥

-- the reply to a call that was not entered: the number of a Horizon, and for any other want of memory
abbrev pub Leaves : EngineCall → EngineReply → Type 0
Leaves call.Horizon (Number n) = Unit {0}
Leaves call.Horizon _ = ⊥
Leaves _ (Fault fault.NoMemory) = Unit {0}
Leaves _ _ = ⊥

-- n is the horizon of each table that the engine stands for, if that and its purge horizon are numbers that a call can have
abbrev pub IsHorizon : {S : Type 0} → (S → EngineTable → List Entry → Type 0) → S → ℕ → Type 0
IsHorizon stands s n = (e : EngineTable) (js : List Entry) → stands s e js → e.purged ≤ 4294967295 → horizon_of e ≤ 4294967295 → n ≡ horizon_of e
