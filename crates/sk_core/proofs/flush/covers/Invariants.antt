use Rattle.std.proofs.Common.{◌≡◌, drop}
use Rattle.sk_linked.specs.Machine.{covers}
use Rattle.sk_core.proofs.flush.covers.Given as goal

-- Of those before this one the cut covers none with the label.
abbrev pub invariant-loop-actor : goal.invariant-loop-actor
invariant-loop-actor l = covers l.actors l.cut l.tx ≡ covers (drop l.actor-index l.actors) l.cut l.tx
