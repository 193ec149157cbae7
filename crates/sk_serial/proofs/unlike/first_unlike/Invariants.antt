-- What is left of both decides.
use Rattle.std.proofs.Common.{◌≡◌, length}
use Rattle.sk_serial.specs.Stored as spec
use Rattle.sk_serial.proofs.unlike.first_unlike.Given as goal

abbrev pub invariant-loop-lines : goal.invariant-loop-lines
invariant-loop-lines l = spec.first_unlike l.last l.lines l.tables ≡ spec.first_unlike l.fn.last l.fn.lines l.fn.stored

abbrev pub decreases-loop-lines : goal.decreases-loop-lines
decreases-loop-lines l = length l.lines
