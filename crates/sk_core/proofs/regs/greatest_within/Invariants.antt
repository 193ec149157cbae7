use Rattle.std.proofs.Common.{◌≡◌, None, drop}
use Rattle.sk_weave.specs.Registry.{greatest_within}
use Rattle.sk_core.proofs.regs.greatest_within.Given as goal

-- The greatest so far and the points to come have the greatest of all.
abbrev pub invariant-loop-point : goal.invariant-loop-point
invariant-loop-point l = greatest_within l.x l.y l.best (drop l.point-index l.points) ≡ greatest_within l.x l.y None l.points
