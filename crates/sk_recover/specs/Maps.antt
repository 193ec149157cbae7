-- Tables as ordered maps.
use Rattle.std.specs.Prelude.{List, map}
use Rattle.std.specs.BTreeMap.{BTreeMap}
use Rattle.sk_rows.specs.declared.value.Value.{Value}
use Rattle.sk_model.specs.Database.{RowOf, Tables}

-- the entries of the maps, one map a table
abbrev pub entries_of : List (BTreeMap Value RowOf) → Tables
entries_of maps = map (λ m. m.entries) maps
