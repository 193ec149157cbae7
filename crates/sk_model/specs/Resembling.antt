-- Replies that are the due ones but for what stands in rows.
use Rattle.std.specs.Prelude.{◌≡◌, ℕ, List, Option, Some, None, true, map}
use Rattle.std.specs.List.{AllByRecursion}
use Rattle.sk_rows.specs.declared.value.Value.{Value}
use Rattle.sk_rows.specs.declared.table.Table.{Table}
use Rattle.sk_model.specs.declared.label.Label.{Label}
use Rattle.sk_model.specs.declared.commit.Write.{Write}
use Rattle.sk_model.specs.declared.commit.Commit.{Commit}
use Rattle.sk_model.specs.declared.call.EngineCall.{EngineCall}
use Rattle.sk_model.specs.declared.call.EngineCall.TheVariants as call
use Rattle.sk_model.specs.declared.call.EngineReply.{EngineReply}
use Rattle.sk_model.specs.declared.call.EngineReply.TheVariants.{Found, Rows, Commits}
use Rattle.sk_model.specs.Database.{RowOf}
use Rattle.sk_model.specs.EngineConditions.{fits_at}

-- the row, if there is one, fits its table and begins with its key
abbrev pub RowFits : List Table → ℕ → Value → Option RowOf → Type 0
RowFits tables t key None = Unit {0}
RowFits tables t key (Some row) = fits_at tables t key row ≡ true

-- a commit's label and its two numbers
abbrev pub numbered : Commit → Label × Option ℕ × Option ℕ
numbered c = (c.label, c.mem, c.store)

-- each row that the commit wrote fits its table
abbrev pub CommitFits : List Table → Commit → Type 0
CommitFits tables c = AllByRecursion (λ (w : Write). RowFits tables w.table w.key w.row) c.writes

-- a reply that has rows, in place of the due one: the rows fit, and commits have the due labels and numbers
abbrev pub Resembles : List Table → EngineCall → EngineReply → EngineReply → Type 0
Resembles tables (call.Get tx t key) (Found due) (Found row) = RowFits tables t key row
Resembles tables (call.Scan tx t) (Rows due) (Rows rows) = AllByRecursion (λ (r : Value × RowOf). RowFits tables t r.0 (Some r.1)) rows
Resembles tables (call.Records from to) (Commits due) (Commits cs) = (map numbered cs ≡ map numbered due) × AllByRecursion (CommitFits tables) cs
Resembles tables call _ _ = ⊥
