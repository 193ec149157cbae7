use Rattle.std.proofs.Common.{◌≡◌, drop}
use Rattle.sk_linked.specs.Plans.{actor_in}
use Rattle.sk_core.proofs.planner.actor_in.Given as goal

-- Who is found among those to come is found among all.
abbrev pub invariant-loop-actor : goal.invariant-loop-actor
invariant-loop-actor l = actor_in l.tx l.actors ≡ actor_in l.tx (drop l.actor-index l.actors)
