use Rattle.std.proofs.Common.{◌≡◌, drop}
use Rattle.sk_weave.specs.Points.{last_from}
use Rattle.sk_weave.specs.Registry.{no_point}
use Rattle.sk_core.proofs.regs.last_of.Given as goal

-- The last so far and the points to come have the last of all.
abbrev pub invariant-loop-point : goal.invariant-loop-point
invariant-loop-point l = last_from l.last (drop l.point-index l.points) ≡ last_from no_point l.points
