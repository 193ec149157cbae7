-- The heads of the tables, as a function of table and key.
use Rattle.std.specs.Prelude.{◌≡◌, ℕ, List, Option, Some, None, Bool, true, ◌==◌, ◌&&◌, slice_get, length}
use Rattle.std.specs.Option.{unwrap_or}
use Rattle.std.specs.Ordering.{eq_by_cmp}
use Rattle.std.specs.Map.{lookup}
use Rattle.std.specs.BTreeMap.{BTreeMap, is_at}
use Rattle.sk_rows.specs.declared.value.Value.{Value}
use Rattle.sk_rows.specs.declared.table.Table.{Table}
use Rattle.sk_rows.specs.Values.{value_cmp}
use Rattle.sk_engine.specs.Rows.{Chains}
use Rattle.sk_store.specs.declared.head.Head.{Head}
use Rattle.sk_store.specs.Cells.{Cells}
use Rattle.sk_store.specs.Heads.{no_head}
use Rattle.sk_store.specs.Shown.{ShowsAll}

-- the head at a key; where there is none, one without versions
abbrev pub head_of : List (Value × Head) → Value → Head
head_of entries key = unwrap_or (lookup (is_at (value_cmp key)) entries) no_head

abbrev pub head_in : Option (BTreeMap Value Head) → Value → Head
head_in None key = no_head
head_in (Some m) key = head_of m.entries key

-- the head of a table at a key
abbrev pub head_at : List (BTreeMap Value Head) → ℕ → Value → Head
head_at tables t key = head_in (slice_get tables t) key

-- the row at t and k is the one at u and key
abbrev pub is_at_row : ℕ → Value → ℕ → Value → Bool
is_at_row t k u key = (t == u) && eq_by_cmp value_cmp key k

-- Of these tables, the maps of heads and the cells show these versions of each row: there is one map a table.
pub record Shows (told : Bool) (has : Cells → Type 0) (kept : List Table) (maps : List (BTreeMap Value Head)) (tables : List Table) (chains : Chains) : Type 0 where
  pub catalog : kept ≡ tables
  pub count : length maps ≡ length tables
  pub all : ShowsAll told has (head_at maps) tables chains
