-- For which tables rows with their openings and numbers stand.
use Rattle.std.specs.Prelude.{◌≡◌, ℕ, ◌≤◌, ◌+◌, List, T, length, map}
use Rattle.std.specs.FinMap.{is_sorted}
use Rattle.std.specs.List.{AllByRecursion}
use Rattle.std.specs.Vec.{vec_len, vec_capacity}
use Rattle.sk_rows.specs.declared.table.Table.{Table}
use Rattle.sk_rows.specs.Values.{value_cmp}
use Rattle.sk_model.specs.declared.engine.EngineName.{EngineName}
use Rattle.sk_model.specs.Database.{table_of}
use Rattle.sk_model.specs.Engine.{EngineTable, Version, label_cmp}
use Rattle.sk_model.specs.EngineInvariant.{Good, Listed}
use Rattle.sk_model.specs.Resembling.{RowFits}
use Rattle.sk_engine.specs.declared.book.Book.{Book}
use Rattle.sk_engine.specs.Rows.{Chains}
use Rattle.sk_engine.specs.Stands.{Stands, held_in}
use Rattle.sk_engine.specs.Counts.{Counts, used}

-- there is room for the number of each opening
abbrev pub HasRoom : Book → Type 0
HasRoom b = vec_len b.numbers + length b.openings.entries ≤ vec_capacity b.numbers

-- what a version writes fits its table
abbrev pub VersionFits : List Table → Version → Type 0
VersionFits tables v = RowFits tables v.write.table v.write.key v.write.row

-- what holds of each table of an engine with this name
pub record IsSound (name : EngineName) (e : EngineTable) : Type 0 where
  pub named : e.name ≡ name
  pub count : length e.rows ≡ length e.catalog
  pub sorted : (t : ℕ) → T (is_sorted value_cmp (table_of e.rows t))
  pub ordered : T (is_sorted label_cmp e.openings)
  pub good : Good e
  pub listed : Listed e.start e
  pub fit : AllByRecursion (VersionFits e.catalog) e.versions

-- rows that show these versions, with a book, stand for a table
pub record StandsBy (name : EngineName) (shown : List Table → Chains → Type 0) (b : Book) (e : EngineTable) : Type 0 where
  pub sound : IsSound name e
  pub chains : Chains
  pub shows : shown e.catalog chains
  pub stands : Stands b.greatest b.purged (held_in b.openings.entries) chains e
  pub counts : Counts b.horizon b.purged (map used b.numbers.items) e
  pub room : HasRoom b
