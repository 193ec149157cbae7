-- An engine's journal: the table after its entries, and whether each reply is the right one.
use Rattle.std.specs.Prelude.{◌≡◌, List, [], ◌∷◌, Bool, true, false, cond, not, ◌&&◌, ◌⊎◌}
use Rattle.std.specs.List.{fold}
use Rattle.sk_model.specs.declared.call.EngineCall.{EngineCall}
use Rattle.sk_model.specs.declared.call.EngineCall.TheVariants as call
use Rattle.sk_model.specs.declared.call.EngineFault.TheVariants as fault
use Rattle.sk_model.specs.declared.call.EngineReply.{EngineReply}
use Rattle.sk_model.specs.declared.call.EngineReply.TheVariants.{Done, Found, Rows, Number, Commits, Fault}
use Rattle.sk_model.specs.declared.call.Entry.{Entry}
use Rattle.sk_model.specs.Engine.{EngineTable}
use Rattle.sk_model.specs.EngineReplies.{answer_of}
use Rattle.sk_model.specs.EngineChanges.{change}
use Rattle.sk_model.specs.EngineConditions.{may, empty_of}

abbrev pub is_refusal : EngineReply → Bool
is_refusal Done = false
is_refusal (Found r) = false
is_refusal (Rows rows) = false
is_refusal (Number n) = false
is_refusal (Commits cs) = false
is_refusal (Fault f) = true

-- the table after an entry
abbrev pub step : EngineTable → Entry → EngineTable
step e j = cond (may e j.call && not (is_refusal j.reply)) (change e j.call) e

-- the reply that a call should have
abbrev pub due : EngineTable → EngineCall → EngineReply
due e c = cond (may e c) (answer_of e c) (empty_of c)

abbrev pub after_entries : EngineTable → List Entry → EngineTable
after_entries e js = fold step e js

-- the calls that touch a page, so that a device may fail them
abbrev pub touches : EngineCall → Bool
touches (call.Open tx s) = false
touches (call.Get tx t key) = true
touches (call.Scan tx t) = true
touches (call.Put tx t key row) = true
touches (call.Close tx) = false
touches (call.Stamp tx n) = false
touches (call.Void tx n) = false
touches (call.DropTx tx) = false
touches call.Horizon = false
touches (call.Records from to) = true
touches (call.Purge upto) = true

-- a device may fail this call: it touches a page, and its condition holds, so that it is made
abbrev pub may_fail : EngineTable → EngineCall → Bool
may_fail e c = may e c && touches c

-- the reply is the one of the table, or the fault of a device where one may come
abbrev pub IsReply : EngineTable → EngineCall → EngineReply → Type 0
IsReply e c reply = ((may_fail e c ≡ true) × (reply ≡ Fault fault.Device)) ⊎ (due e c ≡ reply)

-- each reply is the one of the table that the entries before it leave
abbrev pub Legal : EngineTable → List Entry → Type 0
Legal e [] = Unit {0}
Legal e (j ∷ js) = IsReply e j.call j.reply × Legal (step e j) js

-- no entry breaks its condition
abbrev pub Allowed : EngineTable → List Entry → Type 0
Allowed e [] = Unit {0}
Allowed e (j ∷ js) = (may e j.call ≡ true) × Allowed (step e j) js
