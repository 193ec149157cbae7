-- The sum so far, with what is to come, is the whole one.
use Rattle.std.proofs.Common.{◌≡◌, Some, length}
use Rattle.sk_serial.specs.Summary as spec
use Rattle.sk_serial.proofs.summary.total.Given as goal

abbrev pub invariant-loop-rest : goal.invariant-loop-rest
invariant-loop-rest l = spec.total_from (Some l.sum) l.rest ≡ spec.total l.fn.rows

abbrev pub decreases-loop-rest : goal.decreases-loop-rest
decreases-loop-rest l = length l.rest
