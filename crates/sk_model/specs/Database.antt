-- One database with one list of commits: its tables, and what writes and commits make of them.
use Rattle.std.specs.Prelude.{ℕ, List, [], Option, Some, None, Bool, not, ◌==◌, ◌&&◌, slice_index_or, slice_set, take, map}
use Rattle.std.specs.List.{fold}
use Rattle.std.specs.declared.cmp.Ordering.{Ordering}
use Rattle.std.specs.Ordering.{nat_cmp, eq_by_cmp, ordering_then}
use Rattle.std.specs.FinMap.{find, put}
use Rattle.std.specs.FinMap.Entries.{where_key}
use Rattle.sk_rows.specs.declared.value.Value.{Value}
use Rattle.sk_rows.specs.Values.{value_cmp}
use Rattle.sk_model.specs.declared.commit.Write.{Write}
use Rattle.sk_model.specs.declared.commit.Commit.{Commit}

-- the values of a row, of which the first is its key
abbrev pub RowOf : Type 0
RowOf = List Value

-- the rows of one table with their keys, in the order of the keys
abbrev pub KeyedRows : Type 0
KeyedRows = List (Value × RowOf)

-- one list of rows for each table of the catalog
abbrev pub Tables : Type 0
Tables = List KeyedRows

-- the rows after one key was given a row or none
abbrev pub rows_with : KeyedRows → Value → Option RowOf → KeyedRows
rows_with rows key None = where_key value_cmp (λ k. not (eq_by_cmp value_cmp key k)) rows
rows_with rows key (Some row) = put value_cmp key row rows

abbrev pub table_of : Tables → ℕ → KeyedRows
table_of db t = slice_index_or db t []

abbrev pub row_of : Tables → ℕ → Value → Option RowOf
row_of db t key = find value_cmp key (table_of db t)

-- the write is of this row
abbrev pub hits : ℕ → Value → Write → Bool
hits t key w = (t == w.table) && eq_by_cmp value_cmp key w.key

-- the tables after one write
abbrev pub after_write : Tables → Write → Tables
after_write db w = slice_set db w.table (rows_with (table_of db w.table) w.key w.row)

-- the tables after these writes, in order
abbrev pub after_writes : Tables → List Write → Tables
after_writes db ws = fold after_write db ws

abbrev pub after_commit : Tables → Commit → Tables
after_commit db c = after_writes db c.writes

-- the opening tables after these commits, in order
abbrev pub state : Tables → List Commit → Tables
state opening order = fold after_commit opening order

-- the tables after the first p commits, overlaid with some writes
abbrev pub view : Tables → List Commit → ℕ → List Write → Tables
view opening order p ws = after_writes (state opening (take p order)) ws

-- a row's table and key
abbrev pub RowId : Type 0
RowId = ℕ × Value

-- by table, and within a table by key
abbrev pub row_id_cmp : RowId → RowId → Ordering
row_id_cmp a b = ordering_then (nat_cmp a.0 b.0) (value_cmp a.1 b.1)

abbrev pub noted : List (RowId × Option RowOf) → Write → List (RowId × Option RowOf)
noted rows w = put row_id_cmp (w.table, w.key) w.row rows

abbrev pub write_of : RowId × Option RowOf → Write
write_of e = record { table = e.0.0; key = e.0.1; row = e.1 }

-- what these writes come to: of each row the last write, by table and within a table by key
abbrev pub net : List Write → List Write
net ws = map write_of (fold noted [] ws)
