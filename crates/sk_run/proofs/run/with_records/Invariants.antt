-- The records so far, and those that are left.
use Rattle.std.proofs.Common.{◌≡◌, ◌++◌}
use Rattle.sk_run.proofs.run.with_records.Given as goal

abbrev pub invariant-loop-record : goal.invariant-loop-record
invariant-loop-record l = l.all ++ l.record-iterator.rest.items ≡ l.initial.all ++ l.initial.record-iterator.rest.items
