use Rattle.std.proofs.Common.{◌≡◌, ◌+◌, List, [], ◌∷◌, length}
use Rattle.std.specs.List.{AllByRecursion}
use Rattle.sk_points.specs.Parts.{RingPart, IsSpare}
use Rattle.sk_points.proofs.points.Points.new.Given as goal

-- The first partition has the point, and the others so far are empty.
abbrev pub invariant-loop : goal.invariant-loop
invariant-loop l = (spare : List RingPart) × (l.parts.items ≡ record { points = l.start ∷ []; size = l.size } ∷ spare) × (length spare + 1 ≡ l.counter) × AllByRecursion (IsSpare l.size) spare
