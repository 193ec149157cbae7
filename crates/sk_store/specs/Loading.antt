-- The rows that an engine begins with, and what is shown once they are loaded.
use Rattle.std.specs.Prelude.{◌≡◌, ℕ, ◌<◌, List, Option, Some, None, cond, ◌==◌, T, length}
use Rattle.std.specs.FinMap.{find, is_sorted}
use Rattle.std.specs.List.{AllByRecursion}
use Rattle.sk_rows.specs.declared.value.Value.{Value}
use Rattle.sk_rows.specs.declared.table.Table.{Table}
use Rattle.sk_rows.specs.Values.{value_cmp}
use Rattle.sk_model.specs.Database.{KeyedRows, RowOf, Tables, table_of}
use Rattle.sk_model.specs.Resembling.{RowFits}
use Rattle.sk_chain.specs.Chained.{Chained, empty}
use Rattle.sk_engine.specs.Rows.{Chains}
use Rattle.sk_engine.specs.Stands.{begun}

-- each of these rows fits its table and begins with its key
abbrev pub RowsFit : List Table → ℕ → KeyedRows → Type 0
RowsFit tables t rows = AllByRecursion (λ (r : Value × RowOf). RowFits tables t r.0 (Some r.1)) rows

-- one list of rows a table, each in the order of its keys
pub record AreOpeningRows (tables : List Table) (opening : Tables) : Type 0 where
  pub count : length opening ≡ length tables
  pub ordered : (t : ℕ) → T (is_sorted value_cmp (table_of opening t))
  pub fit : (t : ℕ) → RowsFit tables t (table_of opening t)

-- rows of one table, none of which has a version yet
pub record AreNew (tables : List Table) (chains : Chains) (t : ℕ) (rows : KeyedRows) : Type 0 where
  pub there : t < length tables
  pub ordered : T (is_sorted value_cmp rows)
  pub fit : RowsFit tables t rows
  pub free : AllByRecursion (λ (r : Value × RowOf). chains t r.0 ≡ empty) rows

-- the one version of a row that is there, or else these
abbrev pub begun_or : ℕ → Option RowOf → Chained → Chained
begun_or start None c = c
begun_or start (Some row) c = begun start (Some row)

-- each of these rows of one table has one version, stamped with the start
abbrev pub with_rows : ℕ → ℕ → KeyedRows → Chains → Chains
with_rows start t rows chains u key = cond (u == t) (begun_or start (find value_cmp key rows) (chains u key)) (chains u key)

module _ {S : Type 0} (shows : S → List Table → Chains → Type 0) where
  -- some chains are shown in which these rows have no version yet
  abbrev pub MayLoad : S → ℕ → KeyedRows → Type 0
  MayLoad old t rows = (tables : List Table) × (chains : Chains) × shows old tables chains × AreNew tables chains t rows

  abbrev pub Loads : S → S → ℕ → ℕ → KeyedRows → Type 0
  Loads old new start t rows = (tables : List Table) (chains : Chains) → shows old tables chains → AreNew tables chains t rows → shows new tables (with_rows start t rows chains)
