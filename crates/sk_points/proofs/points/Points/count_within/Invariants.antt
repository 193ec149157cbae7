use Rattle.std.proofs.Common.{◌≤◌, ◌-◌, length}
use Rattle.std.specs.List.{prefix_len}
use Rattle.sk_weave.specs.Registry.{is_within}
use Rattle.sk_points.specs.Parts.{points_in}
use Rattle.sk_points.proofs.points.Points.count_within.Given as goal

-- The answer lies between the two bounds.
abbrev pub invariant-loop-low : goal.invariant-loop-low
invariant-loop-low l = record {
  low : l.low ≤ prefix_len (is_within l.x l.y) (points_in l.self.parts.items);
  high : prefix_len (is_within l.x l.y) (points_in l.self.parts.items) ≤ l.high;
  within : l.high ≤ length (points_in l.self.parts.items);
}

-- They come closer.
abbrev pub decreases-loop-low : goal.decreases-loop-low
decreases-loop-low l = l.high - l.low
