-- What is left of both decides.
use Rattle.std.proofs.Common.{◌≡◌, length}
use Rattle.sk_serial.specs.Stored as spec
use Rattle.sk_serial.proofs.unlike.same_columns.Given as goal

abbrev pub invariant-loop-left : goal.invariant-loop-left
invariant-loop-left l = spec.same_columns l.left l.right ≡ spec.same_columns l.fn.a l.fn.b

abbrev pub decreases-loop-left : goal.decreases-loop-left
decreases-loop-left l = length l.left
