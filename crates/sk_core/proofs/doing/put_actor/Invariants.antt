use Rattle.std.proofs.Common.{◌≡◌, ◌++◌, cond, drop}
use Rattle.sk_linked.specs.Machine.{put_actor}
use Rattle.sk_core.proofs.doing.put_actor.Given as goal

-- The transactions so far with those to come are all; among these the one has its place unless it was found.
abbrev pub invariant-loop-actor : goal.invariant-loop-actor
invariant-loop-actor l = l.out ++ cond l.found (drop l.actor-index l.actors) (put_actor l.who (drop l.actor-index l.actors)) ≡ put_actor l.who l.actors
