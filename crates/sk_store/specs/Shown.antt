-- Which versions of rows their heads and the cells show.
use Rattle.std.specs.Prelude.{◌≡◌, ℕ, List, Option, Some, None, Bool, true, false, cond, nat_le, ◌==◌, ◌&&◌, ◌⊎◌, ◌≤◌, length, All, IfSome}
use Rattle.std.specs.Option.{is_some}
use Rattle.sk_rows.specs.declared.value.Value.{Value}
use Rattle.sk_rows.specs.declared.table.Column.{Column}
use Rattle.sk_rows.specs.declared.table.Table.{Table}
use Rattle.sk_rows.specs.Values.{Fits}
use Rattle.sk_model.specs.Database.{RowOf}
use Rattle.sk_model.specs.Names.{columns_at}
use Rattle.sk_model.specs.Replies.{key_of}
use Rattle.sk_model.specs.EngineReplies.{last_in}
use Rattle.sk_chain.specs.Chained.{Chained}
use Rattle.sk_chain.specs.Reading.{last_upto}
use Rattle.sk_codec.specs.Spelling.{AreValues, row_bytes}
use Rattle.sk_undo.specs.Log.{Log, record_at, row_of, row_seen}
use Rattle.sk_engine.specs.declared.row_id.RowId.{RowId}
use Rattle.sk_engine.specs.Rows.{Chains, row_in}
use Rattle.sk_store.specs.declared.head.Head.{Head}
use Rattle.sk_store.specs.declared.head.Holds.{Holds}
use Rattle.sk_store.specs.declared.head.Holds.TheVariants.{Settled, Pending, Dropped}
use Rattle.sk_store.specs.declared.head.Spot.{Spot}
use Rattle.sk_store.specs.declared.head.Stamp.{Stamp}
use Rattle.sk_store.specs.Cells.{Cells}
use Rattle.sk_store.specs.Heads.{bare, last_of, top_of}

-- a row, if there is one, fits these columns and begins with the key
abbrev pub MayBe : List Column → Value → Option RowOf → Type 0
MayBe columns key None = Unit {0}
MayBe columns key (Some row) = Fits row columns × (key ≡ key_of row)

-- the cell has the bytes of the row; an absence has no cell
abbrev pub HasRow : Cells → Option Spot → Option RowOf → Type 0
HasRow cells None None = Unit {0}
HasRow cells None (Some row) = ⊥
HasRow cells (Some at) None = ⊥
HasRow cells (Some at) (Some row) = (cells at.page at.slot ≡ Some (row_bytes row)) × AreValues row

-- the cell has the bytes of a row of this key
abbrev pub IsCell : Cells → List Column → Value → Option Spot → Option RowOf → Type 0
IsCell cells columns key at row = HasRow cells at row × MayBe columns key row

-- the row of a stamped version in the cell for snapshots from its number on, and of older ones before
abbrev pub row_upto : Stamp → Option RowOf → Head → ℕ → Option RowOf
row_upto x row h s = cond (nat_le x.n s) row (row_seen h.undo h.older s)

-- readers at each snapshot find these rows among the stamped versions
abbrev pub Finds : Chained → (ℕ → Option RowOf) → Type 0
Finds c row = (s : ℕ) → row_in (last_upto s c.settled) ≡ row s

module _ (cells : Cells) (columns : List Column) (key : Value) where
  -- the cell has the newest version, unless that was dropped, and the undo records have the older ones
  abbrev pub HoldsRow : Head → Chained → Holds → Type 0
  HoldsRow h c Settled = (x : Stamp) × (row : Option RowOf) × (h.newest ≡ Some x) × IsCell cells columns key h.cell row × Finds c (row_upto x row h)
  HoldsRow h c (Pending by floor) = IsCell cells columns key h.cell (row_in c.top) × Finds c (row_seen h.undo h.older)
  HoldsRow h c Dropped = Finds c (row_seen h.undo h.older)

-- The head shows these versions of its row: who wrote the newest one of each kind, and where the device tells what it reads, the
-- rows of all.
pub record RowShows (told : Bool) (cells : Cells) (columns : List Column) (key : Value) (h : Head) (c : Chained) : Type 0 where
  pub top : bare c.top ≡ top_of h.holds
  pub last : bare (last_in None c.settled) ≡ last_of h.newest
  pub fit : (at : ℕ) → MayBe columns key (row_of (record_at h.undo at))
  pub holds : told ≡ true → HoldsRow cells columns key h c h.holds

-- ---- all rows

-- the heads of all rows
abbrev pub Heads : Type 0
Heads = ℕ → Value → Head

abbrev pub row_id : ℕ → Value → RowId
row_id t key = record { table = t; key = key }

abbrev pub Owns : (ℕ → ℕ → Option RowId) → Option Spot → RowId → Type 0
Owns owner None p = Unit {0}
Owns owner (Some at) p = owner at.page at.slot ≡ Some p

-- Each cell that a head names is its row's alone, since a function has one value, and is in use.
pub record AreApart (cells : Cells) (heads : Heads) : Type 0 where
  pub owner : ℕ → ℕ → Option RowId
  pub owned : (t : ℕ) (key : Value) → Owns owner (heads t key).cell (row_id t key)
  pub used : (page slot : ℕ) → is_some (owner page slot) ≡ true → is_some (cells page slot) ≡ true

-- of these tables, heads and cells show these versions of each row
pub record ShowsAll (told : Bool) (has : Cells → Type 0) (heads : Heads) (tables : List Table) (chains : Chains) : Type 0 where
  pub cells : Cells
  pub has_cells : has cells
  pub rows : (t : ℕ) (key : Value) → RowShows told cells (columns_at tables t) key (heads t key) (chains t key)
  pub apart : told ≡ true → AreApart cells heads

-- ---- a cell that is written

-- not this place
abbrev pub is_at : Option Spot → ℕ → ℕ → Bool
is_at None page slot = false
is_at (Some at) page slot = (page == at.page) && (slot == at.slot)

-- the cells but for these two are as before
abbrev pub OthersStay : Cells → Cells → Option Spot → Option Spot → Type 0
OthersStay before after old new = (page slot : ℕ) → is_at old page slot ≡ false → is_at new page slot ≡ false → after page slot ≡ before page slot

-- where there was no cell, or the one of before
abbrev pub IsFresh : Cells → Option Spot → Option Spot → Type 0
IsFresh cells old None = Unit {0}
IsFresh cells old (Some at) = (old ≡ Some at) ⊎ (cells at.page at.slot ≡ None)

-- a row is short enough for a cell
abbrev pub IsCellRow : Option RowOf → Type 0
IsCellRow row = (columns : List Column) × IfSome row (λ r. Fits r columns)
