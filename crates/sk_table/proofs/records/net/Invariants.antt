use Rattle.std.proofs.Common.{◌≡◌, ◌++◌, map}
use Rattle.sk_model.specs.Database.{write_of, net}
use Rattle.sk_table.proofs.records.net.Given as goal

-- The writes so far with those to come are all.
abbrev pub invariant-loop-entry : goal.invariant-loop-entry
invariant-loop-entry l = l.out ++ map write_of l.entry-iterator.rest.items ≡ net l.writes
