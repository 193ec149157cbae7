use Rattle.std.proofs.Common.{◌≡◌, ◌+◌, ◌-◌, ◌≤◌, length, drop}
use Rattle.std.specs.List.{prefix_len}
use Rattle.sk_script.specs.Body.{goes_on}
use Rattle.sk_script.proofs.body.statement_len.Given as goal

-- The tokens so far are no semicolon.
abbrev pub invariant-loop-n : goal.invariant-loop-n
invariant-loop-n l = (l.n + prefix_len goes_on (drop l.n l.tokens) ≡ prefix_len goes_on l.tokens) × (l.n ≤ length l.tokens)

abbrev pub decreases-loop-n : goal.decreases-loop-n
decreases-loop-n l = length l.tokens - l.n
