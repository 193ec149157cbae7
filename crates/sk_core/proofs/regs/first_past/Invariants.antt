use Rattle.std.proofs.Common.{◌≡◌, drop}
use Rattle.sk_weave.specs.Points.{first_past}
use Rattle.sk_core.proofs.regs.first_past.Given as goal

-- The first of the points to come is the first of all.
abbrev pub invariant-loop-point : goal.invariant-loop-point
invariant-loop-point l = first_past l.a l.points ≡ first_past l.a (drop l.point-index l.points)
