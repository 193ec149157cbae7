use Rattle.std.proofs.Common.{◌≡◌, ◌+◌, ◌≤◌, length}
use Rattle.sk_script.specs.Script.{read_from, pieces, nothing}
use Rattle.sk_script.proofs.reading.read_lines.Given as goal

-- What was read goes on with the rest, and each line had a byte.
abbrev pub invariant-lines : goal.invariant-lines
invariant-lines l = record {
  goes_on : read_from l.long l.script l.number (pieces l.rest) ≡ read_from l.long nothing 1 (pieces l.bytes);
  from_one : 1 ≤ l.number;
  few : l.number + length l.rest ≤ 16777217;
}

abbrev pub decreases-lines : goal.decreases-lines
decreases-lines l = length l.rest
