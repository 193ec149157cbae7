use Rattle.std.proofs.Common.{◌≡◌, ◌++◌, drop}
use Rattle.sk_linked.specs.Machine.{calls_on}
use Rattle.sk_core.proofs.doing.add_calls.Given as goal

-- The calls so far with those to come are all.
abbrev pub invariant-loop-entry : goal.invariant-loop-entry
invariant-loop-entry l = l.talk ++ calls_on l.name (drop l.entry-index l.entries) ≡ l.fn.talk ++ calls_on l.name l.entries
