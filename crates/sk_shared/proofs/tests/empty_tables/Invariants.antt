-- The rows so far are those of the tables so far.
use Rattle.std.proofs.Common.{◌≡◌, take}
use Rattle.sk_store.specs.Begun.{no_rows}
use Rattle.sk_shared.proofs.tests.empty_tables.Given as goal

abbrev pub invariant-loop-table : goal.invariant-loop-table
invariant-loop-table l = l.rows ≡ no_rows (take l._table-index l._table-items)
