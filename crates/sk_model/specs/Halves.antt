-- A commit as one engine sees it: its number there, and what it wrote to that engine's tables.
use Rattle.std.specs.Prelude.{◌≡◌, ℕ, List, [], ◌∷◌, None, Bool, map}
use Rattle.std.specs.List.{filter}
use Rattle.sk_rows.specs.declared.table.Table.{Table}
use Rattle.sk_model.specs.declared.engine.EngineName.{EngineName}
use Rattle.sk_model.specs.declared.engine.EngineName.TheVariants.{Mem, Store}
use Rattle.sk_model.specs.declared.commit.Commit.{Commit}
use Rattle.sk_model.specs.declared.call.Entry.{Entry}
use Rattle.sk_model.specs.Database.{Tables}
use Rattle.sk_model.specs.Engine.{EngineTable, Version, engine_at}
use Rattle.sk_model.specs.EngineReplies.{commit_of}
use Rattle.sk_model.specs.Legal.{after_entries}
use Rattle.sk_model.specs.Stamped.{number_in, CommitsOf}

-- the commit without the other engine's number, which no engine knows
abbrev pub half : EngineName → Commit → Commit
half Mem c = record c { store = None }
half Store c = record c { mem = None }

-- the commit with both its numbers, and of its writes those to the tables that are the engine's
abbrev pub own_part : (ℕ → Bool) → Commit → Commit
own_part owns c = record c { writes = filter (λ w. owns w.table) c.writes }

-- the commits of both lists, one by one, have the same number of the engine, and those of the first wrote what those of the second wrote to its tables
abbrev pub SameIn : EngineName → (ℕ → Bool) → List Commit → List Commit → Type 0
SameIn name owns [] [] = Unit {0}
SameIn name owns [] (d ∷ ds) = ⊥
SameIn name owns (c ∷ cs) [] = ⊥
SameIn name owns (c ∷ cs) (d ∷ ds) = (number_in name c ≡ number_in name d) × (c.writes ≡ (own_part owns d).writes) × SameIn name owns cs ds

-- an engine's commits are the parts of each list with the same numbers of the engine and the same writes to its tables
abbrev pub PartsAreCommits : Type 0
PartsAreCommits = (name : EngineName) (owns : ℕ → Bool) (low : ℕ) (versions : List Version) (cs ds : List Commit) → CommitsOf (number_in name) low versions cs → SameIn name owns cs ds
    → CommitsOf (number_in name) low versions (map (own_part owns) ds)

-- where what an engine stamped are the halves of these commits, their parts are its commits
abbrev pub HalvesAreCommits : Type 0
HalvesAreCommits = (name : EngineName) (catalog : List Table) (rows : Tables) (start : ℕ) (js : List Entry) (owns : ℕ → Bool) (ds : List Commit) →
    let e : EngineTable = after_entries (engine_at name catalog rows start) js in
    map (commit_of e) e.stamped ≡ map (λ d. half name (own_part owns d)) ds → CommitsOf (number_in name) start e.versions (map (own_part owns) ds)
