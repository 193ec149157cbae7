-- Those met so far and those to come are all, and no more were met than were looked at.
use Rattle.std.proofs.Common.{◌≡◌, ◌+◌, ◌≤◌, length}
use Rattle.sk_serial.specs.Summary as spec
use Rattle.sk_serial.proofs.summary.conflicts.Given as goal

abbrev pub invariant-loop-rest : goal.invariant-loop-rest
invariant-loop-rest l = record {
  all : l.met + spec.conflicts l.rest ≡ spec.conflicts l.fn.records;
  few : l.met + length l.rest ≤ length l.fn.records;
}

abbrev pub decreases-loop-rest : goal.decreases-loop-rest
decreases-loop-rest l = length l.rest
