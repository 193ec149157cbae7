-- Commits by their number in an engine and the time at which they came.
use Rattle.std.specs.Prelude.{◌≡◌, ℕ, ◌<◌, List, [], ◌∷◌, Some, map}
use Rattle.std.specs.List.{AllByRecursion}
use Rattle.sk_model.specs.declared.label.Label.{Label}
use Rattle.sk_model.specs.declared.engine.EngineName.{EngineName}
use Rattle.sk_model.specs.declared.commit.Write.{Write}
use Rattle.sk_model.specs.declared.commit.Commit.{Commit}
use Rattle.sk_model.specs.declared.record.Record.{Record}
use Rattle.sk_model.specs.Database.{net}
use Rattle.sk_model.specs.Stamped.{number_in}
use Rattle.sk_linked.specs.Traces.{added}
use Rattle.sk_ledger.specs.Ledger.{number_of}
use Rattle.sk_ledger.specs.Puts.{puts_at}

abbrev pub Key : Type 0
Key = ℕ × ℕ

-- what a record committed, with the puts of this map
abbrev pub commit_from : List (Label × List Write) → Record → Commit
commit_from puts r = record { label = r.label; mem = r.drew_mem; store = r.drew_store; writes = net (puts_at puts r.label) }

-- what these records committed, before the commits so far
abbrev pub commits_onto : List (Label × List Write) → EngineName → List Record → List Commit → List Commit
commits_onto puts name [] cs = cs
commits_onto puts name (r ∷ rs) cs = added name (number_of name r) (commit_from puts r) (commits_onto puts name rs cs)

abbrev pub commits_from : List (Label × List Write) → EngineName → List Record → List Commit
commits_from puts name rs = commits_onto puts name rs []

abbrev pub listed : List (Key × Commit) → List Commit
listed entries = map (λ (e : Key × Commit). e.1) entries

-- each commit stands at its number in the engine, and came before this time
abbrev pub AreNumbered : EngineName → ℕ → List (Key × Commit) → Type 0
AreNumbered name time entries = AllByRecursion (λ (e : Key × Commit). (number_in name e.1 ≡ Some e.0.0) × (e.0.1 < time)) entries
