use Rattle.std.proofs.Common.{◌≡◌, ◌++◌, drop}
use Rattle.sk_linked.specs.Machine.{waiting}
use Rattle.sk_core.proofs.flush.waiting.Given as goal

-- Who waits so far and of those to come are all who wait.
abbrev pub invariant-loop-tx : goal.invariant-loop-tx
invariant-loop-tx l = l.out ++ waiting l.actors l.cut (drop l.tx-index l.queue) ≡ waiting l.actors l.cut l.queue
