use Rattle.std.proofs.Common.{◌≡◌, ◌++◌}
use Rattle.sk_core.proofs.doing.extended.Given as goal

-- The entries so far with those to come are all.
abbrev pub invariant-loop-entry : goal.invariant-loop-entry
invariant-loop-entry l = l.out ++ l.entry-iterator.rest.items ≡ l.fn.entries ++ l.fn.more
