-- The table that an engine stands for: the versions of its rows, the transactions that have opened it, and its numbers.
use Rattle.std.specs.Prelude.{ℕ, List, [], Option, Some, None, Bool, true, false, not, nat_lt, nat_le, slice_get}
use Rattle.std.specs.declared.cmp.Ordering.{Ordering}
use Rattle.std.specs.Ordering.{nat_cmp, ordering_then}
use Rattle.std.specs.FinMap.{find}
use Rattle.sk_rows.specs.declared.value.Value.{Value}
use Rattle.sk_rows.specs.declared.table.Table.{Table}
use Rattle.sk_model.specs.declared.label.Label.{Label}
use Rattle.sk_model.specs.declared.engine.EngineName.{EngineName}
use Rattle.sk_model.specs.declared.engine.EngineName.TheVariants.{Mem, Store}
use Rattle.sk_model.specs.declared.commit.Write.{Write}
use Rattle.sk_model.specs.Database.{RowOf, Tables, hits}

-- by session, and within a session by number
abbrev pub label_cmp : Label → Label → Ordering
label_cmp x y = ordering_then (nat_cmp x.session y.session) (nat_cmp x.k y.k)

-- how a version of a row stands: its transaction is live, or closed with a floor, or committed with a number, or gone
pub data VersionState : Type 0 where
  Open : VersionState
  Closed : (floor : ℕ) → VersionState
  Stamped : (n : ℕ) → VersionState
  Dropped : VersionState

-- what one transaction wrote to one row, and the snapshot that it had
pub record Version : Type 0 where
  pub by : Label
  pub snapshot : ℕ
  pub write : Write
  pub standing : VersionState

-- a transaction that has opened the engine: its snapshot, and its floor once it is closed
pub record Opening : Type 0 where
  pub snapshot : ℕ
  pub floor : Option ℕ

abbrev pub Openings : Type 0
Openings = List (Label × Opening)

-- The table of one engine. The versions of a row stand in the order in which they were made, which is that of their numbers.
-- No version is ever taken out: a purge only moves the number up to which older snapshots are refused.
pub record EngineTable : Type 0 where
  pub name : EngineName
  pub catalog : List Table
  pub start : ℕ
  pub rows : Tables
  pub versions : List Version
  pub openings : Openings
  pub greatest : ℕ
  pub stamped : List (ℕ × Label)
  pub voided : List ℕ
  pub purged : ℕ

-- an engine that begins with these rows and this number
abbrev pub engine_at : EngineName → List Table → Tables → ℕ → EngineTable
engine_at name catalog rows start = record {
  name = name;
  catalog = catalog;
  start = start;
  rows = rows;
  versions = [];
  openings = [];
  greatest = start;
  stamped = [];
  voided = [];
  purged = start;
}

-- which tables an engine keeps
abbrev pub is_kept : EngineName → Option Table → Bool
is_kept name None = false
is_kept Mem (Some t) = not t.store
is_kept Store (Some t) = t.store

abbrev pub keeps : EngineName → List Table → ℕ → Bool
keeps name catalog t = is_kept name (slice_get catalog t)

-- a stamped version with a number up to s
abbrev pub is_upto : ℕ → VersionState → Bool
is_upto s Open = false
is_upto s (Closed f) = false
is_upto s (Stamped n) = nat_le n s
is_upto s Dropped = false

abbrev pub is_open : VersionState → Bool
is_open Open = true
is_open (Closed f) = false
is_open (Stamped n) = false
is_open Dropped = false

-- closed with a floor below s
abbrev pub is_closed_below : ℕ → VersionState → Bool
is_closed_below s Open = false
is_closed_below s (Closed f) = nat_lt f s
is_closed_below s (Stamped n) = false
is_closed_below s Dropped = false

abbrev pub is_undecided : VersionState → Bool
is_undecided Open = true
is_undecided (Closed f) = true
is_undecided (Stamped n) = false
is_undecided Dropped = false

abbrev pub is_stamped : VersionState → Bool
is_stamped Open = false
is_stamped (Closed f) = false
is_stamped (Stamped n) = true
is_stamped Dropped = false

abbrev pub is_of : ℕ → Value → Version → Bool
is_of t key v = hits t key v.write

abbrev pub opening_in : Label → Openings → Option Opening
opening_in tx os = find label_cmp tx os

abbrev pub opening_of : EngineTable → Label → Option Opening
opening_of e tx = opening_in tx e.openings

abbrev pub snapshot_in : Option Opening → ℕ
snapshot_in None = 0
snapshot_in (Some o) = o.snapshot

abbrev pub snapshot_of : EngineTable → Label → ℕ
snapshot_of e tx = snapshot_in (opening_of e tx)

abbrev pub write_at : ℕ → Value → Option RowOf → Write
write_at t key row = record { table = t; key = key; row = row }
