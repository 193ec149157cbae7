-- Where each transaction opens an engine that nobody has open, behind all that is stamped there, none meets another.
use Rattle.std.specs.Prelude.{◌≡◌, ℕ, ◌≤◌, List, [], ◌∷◌, Bool, true, false}
use Rattle.std.specs.List.{AllByRecursion}
use Rattle.sk_model.specs.declared.engine.EngineName.{EngineName}
use Rattle.sk_model.specs.declared.record.Record.{Record}
use Rattle.sk_model.specs.declared.record.Said.{Said}
use Rattle.sk_model.specs.declared.reply.Reply.{Reply}
use Rattle.sk_model.specs.declared.reply.Reply.TheVariants as reply
use Rattle.sk_model.specs.declared.call.EngineCall.{EngineCall}
use Rattle.sk_model.specs.declared.call.EngineCall.TheVariants as call
use Rattle.sk_model.specs.declared.call.Entry.{Entry}
use Rattle.sk_model.specs.Engine.{Stamped, Version, EngineTable}
use Rattle.sk_model.specs.Legal.{step}
use Rattle.sk_model.specs.RecordTalks.{Talks}
use Rattle.sk_linked.specs.Reads.{first_table}
use Rattle.sk_linked.specs.Traces.{Transaction, Traces, run_of, In, Linked}
use Rattle.sk_linked.specs.Recorded.{HasTalk}

-- no stamped version has a number past s
abbrev pub StampedUpto : ℕ → List Version → Type 0
StampedUpto s vs = AllByRecursion (λ (v : Version). (n : ℕ) → v.standing ≡ Stamped n → n ≤ s) vs

-- it opens the engine where nobody has it open, at a snapshot that no stamped number is past
abbrev pub IsAlone : EngineTable → EngineCall → Type 0
IsAlone e (call.Open tx s) = (e.openings ≡ []) × StampedUpto s e.versions
IsAlone e (call.Get tx t key) = Unit {0}
IsAlone e (call.Scan tx t) = Unit {0}
IsAlone e (call.Put tx t key row) = Unit {0}
IsAlone e (call.Close tx) = Unit {0}
IsAlone e (call.Stamp tx n) = Unit {0}
IsAlone e (call.Void tx n) = Unit {0}
IsAlone e (call.DropTx tx) = Unit {0}
IsAlone e call.Horizon = Unit {0}
IsAlone e (call.Records from to) = Unit {0}
IsAlone e (call.Purge upto) = Unit {0}

-- each opening of the journal is so
abbrev pub OpensAlone : EngineTable → List Entry → Type 0
OpensAlone e [] = Unit {0}
OpensAlone e (j ∷ js) = IsAlone e j.call × OpensAlone (step e j) js

-- a reply that names another transaction's write
abbrev pub meets_another : Reply → Bool
meets_another (reply.Conflict by why) = true
meets_another (reply.Busy by) = true
meets_another _ = false

-- so no write meets a conflict, and no read waits
abbrev pub AloneMeetsNobody : Type 0
AloneMeetsNobody = (h : Traces) (t : Transaction) (r : Record) → Linked h → ((name : EngineName) → OpensAlone (first_table (run_of h) name) (h.journals name)) → In t h.transactions → HasTalk t r → Talks h.catalog r t.talk
    → AllByRecursion (λ (s : Said). meets_another s.reply ≡ false) r.said
