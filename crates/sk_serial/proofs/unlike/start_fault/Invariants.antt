-- What is left decides.
use Rattle.std.proofs.Common.{◌≡◌, length}
use Rattle.sk_serial.specs.Stored as spec
use Rattle.sk_serial.proofs.unlike.start_fault.Given as goal

abbrev pub invariant-loop-rest : goal.invariant-loop-rest
invariant-loop-rest l = spec.start_fault l.rest ≡ spec.start_fault l.fn.lines

abbrev pub decreases-loop-rest : goal.decreases-loop-rest
decreases-loop-rest l = length l.rest
