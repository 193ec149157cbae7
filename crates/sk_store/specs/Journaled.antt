-- The journal of the storage engine.
use Rattle.std.specs.Prelude.{◌≤◌, List, [], true, length}
use Rattle.sk_model.specs.declared.call.Entry.{Entry}
use Rattle.sk_model.specs.Engine.{EngineTable}
use Rattle.sk_model.specs.Journal.{most_entries}
use Rattle.sk_chain.specs.declared.noted.Noted.{Noted}
use Rattle.sk_chain.specs.Runs.{Made, Makes, entries_by, engine_behind}
use Rattle.sk_chain.specs.Noting.{noted_stands, journal_of, IsJournal}
use Rattle.sk_store.specs.declared.engine.StoreEngine.{StoreEngine}

-- Calls were made of the engine one after another, where the condition of each held: the journal is their entries, and they are legal and allowed.
abbrev pub StoreJournalIsLegal : (StoreEngine → EngineTable → List Entry → Type 0) → Type 0
StoreJournalIsLegal stands = (s : Noted StoreEngine) (e : EngineTable) (ms : List (Made (Noted StoreEngine))) → noted_stands stands s e []
    → Makes true (λ _. 0) (noted_stands stands) s e ms → length (entries_by ms) ≤ most_entries
    → IsJournal e (entries_by ms) (journal_of (engine_behind s ms))
