use Rattle.std.proofs.Common.{◌≡◌, ◌++◌, drop, map}
use Rattle.sk_linked.specs.State.{record_of}
use Rattle.sk_core.proofs.shown.records_of.Given as goal

-- The records so far with those to come are all.
abbrev pub invariant-loop-actor : goal.invariant-loop-actor
invariant-loop-actor l = l.out ++ map record_of (drop l.actor-index l.actors) ≡ map record_of l.actors
