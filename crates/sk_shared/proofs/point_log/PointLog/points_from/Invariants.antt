-- The points that are left in front, and those behind them, which are not below the number, are all.
use Rattle.std.proofs.Common.{◌≡◌, ◌++◌, ◌≤◌, List, length}
use Rattle.sk_model.specs.declared.point.Point.{Point}
use Rattle.sk_model.proofs.Lists.{Each}
use Rattle.sk_shared.proofs.point_log.PointLog.points_from.Given as goal

abbrev pub invariant-loop-front : goal.invariant-loop-front
invariant-loop-front l = (behind : List Point) × (l.all ≡ l.front ++ behind) × Each (λ (q : Point). l.fn.a ≤ q.a) behind

abbrev pub decreases-loop-front : goal.decreases-loop-front
decreases-loop-front l = length l.front
