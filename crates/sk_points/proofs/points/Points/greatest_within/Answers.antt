use Rattle.std.proofs.Common.{arith}
use Rattle.sk_points.specs.Parts.{points_in}
use Rattle.sk_points.proofs.Searching.{run_is_short, greatest_none, greatest_some}
use Rattle.sk_points.proofs.Picking.{live_ascends}
use Rattle.sk_points.proofs.points.Points.greatest_within.Goals as goal

pub point-requires-clause-there : goal.point-requires-clause-there
point-requires-clause-there c =
    let l = run_is_short c.args.x c.args.y (points_in c.args.self.now.parts.items) in
    omega (arith, l, c.count_within-count.ensures, c.if-count-eq0.false)

pub returns-then-count-eq0 : goal.returns-then-count-eq0
returns-then-count-eq0 c = greatest_none c.args.x c.args.y c.count_within-count.result (points_in c.args.self.now.parts.items) (live_ascends c.args.self.now c.requires.0 c.requires.1) c.count_within-count.ensures c.if-count-eq0.true

pub returns-else-count-eq0 : goal.returns-else-count-eq0
returns-else-count-eq0 c = greatest_some c.args.x c.args.y c.count_within-count.result c.point.result (points_in c.args.self.now.parts.items) (live_ascends c.args.self.now c.requires.0 c.requires.1)
    c.count_within-count.ensures c.if-count-eq0.false c.point.ensures
