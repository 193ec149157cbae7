use Rattle.std.proofs.Common.{◌≡◌, ◌+◌, ◌-◌, ◌≤◌, length, drop}
use Rattle.std.specs.List.{prefix_len}
use Rattle.sk_rows.specs.Text.{is_printable}
use Rattle.sk_script.proofs.line.good_len.Given as goal

-- The bytes so far are printable.
abbrev pub invariant-loop-n : goal.invariant-loop-n
invariant-loop-n l = (l.n + prefix_len is_printable (drop l.n l.line) ≡ prefix_len is_printable l.line) × (l.n ≤ length l.line)

abbrev pub decreases-loop-n : goal.decreases-loop-n
decreases-loop-n l = length l.line - l.n
