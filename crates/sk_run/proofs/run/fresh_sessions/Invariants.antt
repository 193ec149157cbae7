-- As many sessions so far as numbers were gone through.
use Rattle.std.proofs.Common.{◌≡◌, map}
use Rattle.std.specs.List.{range_with_len}
use Rattle.sk_session.specs.Starting.{fresh}
use Rattle.sk_run.proofs.run.fresh_sessions.Given as goal

abbrev pub invariant-loop-before : goal.invariant-loop-before
invariant-loop-before l = l.all.items ≡ map fresh (range_with_len 1 l.before)
