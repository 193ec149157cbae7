use Rattle.std.proofs.Common.{◌≡◌, ◌+◌, ◌-◌, ◌≤◌, length, drop}
use Rattle.sk_expr.specs.Placing.{lesser}
use Rattle.sk_expr.proofs.states.lesser.Given as goal

-- The rows so far have lesser keys.
abbrev pub invariant-loop-n : goal.invariant-loop-n
invariant-loop-n l = (l.n + lesser (drop l.n l.rows) l.key ≡ lesser l.rows l.key) × (l.n ≤ length l.rows)

abbrev pub decreases-loop-n : goal.decreases-loop-n
decreases-loop-n l = length l.rows - l.n
