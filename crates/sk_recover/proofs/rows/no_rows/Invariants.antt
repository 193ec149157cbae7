use Rattle.std.proofs.Common.{◌≡◌, take}
use Rattle.sk_log.specs.Stores.{no_rows}
use Rattle.sk_recover.proofs.rows.no_rows.Given as goal

-- No rows of the tables so far.
abbrev pub invariant-loop-table : goal.invariant-loop-table
invariant-loop-table l = l.all ≡ no_rows (take l._table-index l.tables)
