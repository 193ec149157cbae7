use Rattle.std.proofs.Common.{◌≡◌, ◌+◌, ◌≤◌, length}
use Rattle.std.specs.Prelude.{false}
use Rattle.sk_script.specs.Legible.{held_from}
use Rattle.sk_script.proofs.legible.held.Given as goal

-- The bytes so far and those to come are all.
abbrev pub invariant-loop-bytes : goal.invariant-loop-bytes
invariant-loop-bytes l = (held_from l.is_second l.n l.bytes ≡ held_from false 0 l.initial.bytes) × (l.n + length l.bytes ≤ 16777216)

abbrev pub decreases-loop-bytes : goal.decreases-loop-bytes
decreases-loop-bytes l = length l.bytes
