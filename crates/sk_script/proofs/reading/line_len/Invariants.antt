use Rattle.std.proofs.Common.{◌≡◌, ◌+◌, ◌-◌, ◌≤◌, length, drop}
use Rattle.std.specs.List.{prefix_len}
use Rattle.sk_script.specs.Script.{goes_on}
use Rattle.sk_script.proofs.reading.line_len.Given as goal

-- The bytes so far end no line.
abbrev pub invariant-loop-n : goal.invariant-loop-n
invariant-loop-n l = (l.n + prefix_len goes_on (drop l.n l.bytes) ≡ prefix_len goes_on l.bytes) × (l.n ≤ length l.bytes)

abbrev pub decreases-loop-n : goal.decreases-loop-n
decreases-loop-n l = length l.bytes - l.n
