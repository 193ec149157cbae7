use Rattle.std.proofs.Common.{◌≡◌, ◌+◌, ◌≤◌, drop, length}
use Rattle.std.specs.List.{filter}
use Rattle.sk_linked.specs.Plans.{of_session}
use Rattle.sk_core.proofs.planner.count_of_session.Given as goal

-- Those so far and those to come are all.
abbrev pub invariant-loop-actor : goal.invariant-loop-actor
invariant-loop-actor l = record {
  counted : l.count + length (filter (of_session l.tx) (drop l.actor-index l.actors)) ≡ length (filter (of_session l.tx) l.actors);
  within : l.count ≤ l.actor-index;
}
