-- Calls of an engine, one after another, and the entries that they leave.
use Rattle.std.specs.Prelude.{◌≡◌, ℕ, List, [], ◌∷◌, ◌++◌, Option, Some, None, Bool, true}
use Rattle.std.specs.List.{flat_map}
use Rattle.sk_model.specs.declared.call.EngineCall.{EngineCall}
use Rattle.sk_model.specs.declared.call.EngineReply.{EngineReply}
use Rattle.sk_model.specs.declared.call.Entry.{Entry}
use Rattle.sk_model.specs.Engine.{EngineTable}
use Rattle.sk_model.specs.EngineConditions.{may}
use Rattle.sk_model.specs.Legal.{after_entries, Legal, Allowed}
use Rattle.sk_chain.specs.Promise.{entry_of, Serves}

-- a call that was made, its reply if it was entered, and the engine behind it
pub record Made (S : Type 0) : Type 0 where
  pub call : EngineCall
  pub reply : Option EngineReply
  pub behind : S

abbrev pub entered_by : EngineCall → Option EngineReply → List Entry
entered_by call None = []
entered_by call (Some reply) = entry_of call reply ∷ []

abbrev pub entries_by : {S : Type 0} → List (Made S) → List Entry
entries_by ms = flat_map (λ m. entered_by m.call m.reply) ms

abbrev pub engine_behind : {S : Type 0} → S → List (Made S) → S
engine_behind s [] = s
engine_behind s (m ∷ ms) = engine_behind m.behind ms

-- the condition of each call held, and each was answered as an engine promises
abbrev pub Makes : {S : Type 0} → Bool → (S → ℕ) → (S → EngineTable → List Entry → Type 0) → S → EngineTable → List (Made S) → Type 0
Makes told faults stands s e [] = Unit {0}
Makes told faults stands s e (m ∷ ms) =
    (may e m.call ≡ true) × Serves told faults stands s m.behind m.call m.reply × Makes told faults stands m.behind (after_entries e (entered_by m.call m.reply)) ms

-- legal and allowed, and the engine stands for the table behind them
pub record AreEntered {S : Type 0} (stands : S → EngineTable → List Entry → Type 0) (e : EngineTable) (js made : List Entry) (now : S) : Type 0 where
  pub legal : Legal e made
  pub allowed : Allowed e made
  pub stood : stands now (after_entries e made) (js ++ made)

-- the entries that calls leave of an engine that is told what its device reads
abbrev pub CallsAreLegal : {S : Type 0} → Bool → (S → ℕ) → (S → EngineTable → List Entry → Type 0) → Type 0
CallsAreLegal told faults stands = told ≡ true → (s : _) (e : EngineTable) (js : List Entry) (ms : List (Made _)) → stands s e js → Makes told faults stands s e ms
    → AreEntered stands e js (entries_by ms) (engine_behind s ms)
