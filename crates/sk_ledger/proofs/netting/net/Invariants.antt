use Rattle.std.proofs.Common.{◌≡◌, ◌++◌, map}
use Rattle.sk_model.specs.Database.{write_of, net}
use Rattle.sk_ledger.proofs.netting.net.Given as goal

-- The writes so far with those of the rows to come are all.
abbrev pub invariant-loop-table : goal.invariant-loop-table
invariant-loop-table l = l.out ++ map write_of l.table-iterator ≡ net l.writes
