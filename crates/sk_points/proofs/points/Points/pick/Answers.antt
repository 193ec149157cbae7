use Rattle.sk_points.proofs.Picking.{picks_older, picks_newest}
use Rattle.std.proofs.Common.{subst, ◌<◌, ◌≤◌}
use Rattle.sk_points.proofs.points.Points.pick.Goals as goal

pub returns-then-count-len : goal.returns-then-count-len
returns-then-count-len c = picks_older c.args.self.now c.args.a c.count_within-count.result c.before_b.result c.point.result c.count_within-count.ensures
    (subst (λ n. c.count_within-count.result < n) c.len.ensures c.if-count-len.true) c.point.ensures c.before_b.ensures

pub returns-else-count-len : goal.returns-else-count-len
returns-else-count-len c = picks_newest c.args.self.now c.args.a c.count_within-count.result c.last.result c.pick_newest.result c.count_within-count.ensures
    (subst (λ n. n ≤ c.count_within-count.result) c.len.ensures c.if-count-len.false) c.last.ensures c.pick_newest.ensures
