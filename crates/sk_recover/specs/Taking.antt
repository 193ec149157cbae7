-- What is read of an image is such as a catalog takes, and keys rise.
use Rattle.std.specs.Prelude.{◌≡◌, ℕ, true, false, List, length}
use Rattle.std.specs.List.Sorted.{IsStrictlySortedBy}
use Rattle.std.specs.Map.{keys_of}
use Rattle.sk_rows.specs.declared.value.Value.{Value}
use Rattle.sk_rows.specs.declared.table.Column.{Column}
use Rattle.sk_rows.specs.declared.table.Table.{Table}
use Rattle.sk_rows.specs.Catalog.{are_columns, are_named, has_bool_key, has_column, has_table, is_bool}
use Rattle.sk_rows.specs.Names.{is_name}
use Rattle.sk_rows.specs.Values.{value_cmp}
use Rattle.sk_log.specs.Images.{is_none}

-- a column that may stand behind these: a good name that none of them has, and no truth in first place
pub record IsNewColumn (before : List Column) (c : Column) : Type 0 where
  pub good : is_name c.name ≡ true
  pub alone : has_column c.name before ≡ false
  pub key : is_none before ≡ true → is_bool c.sort ≡ false

-- so many columns, with good names that differ, and no truth in first place
pub record AreGood (count : ℕ) (columns : List Column) : Type 0 where
  pub counted : length columns ≡ count
  pub named : are_named columns ≡ true
  pub key : has_bool_key columns ≡ false

-- a table that may stand behind these: a good name that none of them has, and good columns
pub record IsNewTable (before : List Table) (t : Table) : Type 0 where
  pub good : is_name t.name ≡ true
  pub alone : has_table t.name before ≡ false
  pub columns : are_columns t.columns ≡ true
  pub key : has_bool_key t.columns ≡ false

-- the keys of these rows rise
abbrev pub Rise : List (Value × List Value) → Type 0
Rise rows = IsStrictlySortedBy value_cmp (keys_of rows)
