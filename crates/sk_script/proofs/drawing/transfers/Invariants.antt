use Rattle.std.proofs.Common.{◌≡◌, ◌+◌, ◌-◌, ◌++◌}
use Rattle.sk_script.specs.Generated.{transfers}
use Rattle.sk_script.proofs.drawing.transfers.Given as goal

-- The transfers so far and those to come are all.
abbrev pub invariant-loop-i : goal.invariant-loop-i
invariant-loop-i l = l.made.items ++ transfers l.last (l.i + 1) (l.n - l.i) ≡ transfers l.seed 1 l.n
