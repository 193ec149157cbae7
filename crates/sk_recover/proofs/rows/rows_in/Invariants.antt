use Rattle.std.proofs.Common.{◌≡◌, map}
use Rattle.sk_recover.proofs.rows.rows_in.Given as goal

-- The rows so far are copied.
abbrev pub invariant-loop-key : goal.invariant-loop-key
invariant-loop-key l = l.rows ≡ map (λ e. (e.0.now, e.1.now)) l.yielded
