-- An engine with a journal.
use Rattle.std.specs.Prelude.{◌≡◌, ℕ, ◌≤◌, ◌<◌, ◌-◌, Bool, List, [], Option, Some, None, T, true, length}
use Rattle.std.specs.FinMap.{is_sorted}
use Rattle.sk_model.specs.declared.call.EngineCall.{EngineCall}
use Rattle.sk_model.specs.declared.call.EngineReply.{EngineReply}
use Rattle.sk_model.specs.declared.call.Entry.{Entry}
use Rattle.sk_model.specs.Engine.{EngineTable, label_cmp}
use Rattle.sk_model.specs.EngineReplies.{last_in, horizon_of}
use Rattle.sk_model.specs.Journal.{Written, entered, most_entries, goes_behind}
use Rattle.sk_model.specs.Legal.{Legal, Allowed}
use Rattle.sk_chain.specs.declared.noted.Noted.{Noted}
use Rattle.sk_chain.specs.Promise.{entry_of}
use Rattle.sk_chain.specs.Runs.{Made, Makes, entries_by, engine_behind}

-- The engine stands for the table, and the journal has these entries, if a journal can have as many. There is room for the end of
-- each opening, and the Horizons at the journal's end, if there are any, were answered the number of the table.
pub record Notes (stands : EngineTable → List Entry → Type 0) (w : Written) (e : EngineTable) (js : List Entry) : Type 0 where
  pub behind : List Entry
  pub engine : stands e behind
  pub entries : length js ≤ most_entries → w.entries ≡ js
  pub room : length e.openings ≤ w.room
  pub sorted : T (is_sorted label_cmp e.openings)
  pub goes : length w.entries < most_entries → goes_behind (horizon_of e) (last_in None w.entries) ≡ true

-- the engine below, the entries of the journal, and what both stand for
abbrev pub engine_of : {G : Type 0} → Noted G → G
engine_of x = x.engine

abbrev pub journal_of : {G : Type 0} → Noted G → List Entry
journal_of x = x.journal.entries

abbrev pub noted_stands : {G : Type 0} → (G → EngineTable → List Entry → Type 0) → Noted G → EngineTable → List Entry → Type 0
noted_stands stands x e js = Notes (stands x.engine) x.journal e js

-- a call in room that was taken for it; where memory was wanted, the room is given back
abbrev pub noted : Written → EngineCall → Option EngineReply → Written
noted w call None = record { entries = w.entries; room = w.room - 1 }
noted w call (Some reply) = record { entries = entered w.entries (entry_of call reply); room = w.room - 1 }

-- For every list of calls that meet their conditions the journal is made of just these calls, legal and allowed, as long as a journal can have as many entries.
pub record IsJournal (e : EngineTable) (made entries : List Entry) : Type 0 where
  pub is : entries ≡ made
  pub legal : Legal e entries
  pub allowed : Allowed e entries

abbrev pub JournalIsLegal : {G : Type 0} → Bool → (G → ℕ) → (G → EngineTable → List Entry → Type 0) → Type 0
JournalIsLegal {G} told faults stands = told ≡ true → (s : Noted G) (e : EngineTable) (ms : List (Made (Noted G))) → noted_stands stands s e []
    → Makes told (λ x. faults (engine_of x)) (noted_stands stands) s e ms → length (entries_by ms) ≤ most_entries
    → IsJournal e (entries_by ms) (journal_of (engine_behind s ms))
