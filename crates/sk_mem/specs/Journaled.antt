-- The journal of the memory engine.
use Rattle.std.specs.Prelude.{◌≤◌, List, [], true, length}
use Rattle.sk_model.specs.declared.call.Entry.{Entry}
use Rattle.sk_model.specs.Engine.{EngineTable}
use Rattle.sk_model.specs.Journal.{most_entries}
use Rattle.sk_chain.specs.declared.noted.Noted.{Noted}
use Rattle.sk_chain.specs.Runs.{Made, Makes, entries_by, engine_behind}
use Rattle.sk_chain.specs.Noting.{noted_stands, journal_of, IsJournal}
use Rattle.sk_chain.specs.Applying.{AppliesAll, IsLegalJournal}
use Rattle.sk_mem.specs.declared.engine.MemEngine.{MemEngine}

-- Calls were made of the engine one after another, where the condition of each held: the journal is their entries, and they are legal and allowed.
abbrev pub MemJournalIsLegal : (MemEngine → EngineTable → List Entry → Type 0) → Type 0
MemJournalIsLegal stands = (s : Noted MemEngine) (e : EngineTable) (ms : List (Made (Noted MemEngine))) → noted_stands stands s e []
    → Makes true (λ _. 0) (noted_stands stands) s e ms → length (entries_by ms) ≤ most_entries
    → IsJournal e (entries_by ms) (journal_of (engine_behind s ms))

-- Calls were applied to the engine one after another, whether the condition of each held or not: the journal is their entries, and they are legal.
abbrev pub MemAppliedIsLegal : (MemEngine → EngineTable → List Entry → Type 0) → Type 0
MemAppliedIsLegal stands = (s : Noted MemEngine) (e : EngineTable) (ms : List (Made (Noted MemEngine))) → noted_stands stands s e []
    → AppliesAll true (λ _. 0) (noted_stands stands) s ms → length (entries_by ms) ≤ most_entries
    → IsLegalJournal e (entries_by ms) (journal_of (engine_behind s ms))
