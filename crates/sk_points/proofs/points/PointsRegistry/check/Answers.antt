use Rattle.sk_points.proofs.Calls.{check_passes, check_fails}
use Rattle.sk_points.proofs.points.PointsRegistry.check.Goals as goal

pub returns-then-is_smaller : goal.returns-then-is_smaller
returns-then-is_smaller c = check_passes c.args.self.now c.append.new.self c.last-last.result c.args.ca c.args.cb c.is_smaller.result c.last-last.ensures c.is_smaller.ensures c.if-is_smaller.true c.requires c.append.ensures

pub returns-else-is_smaller : goal.returns-else-is_smaller
returns-else-is_smaller c = check_fails c.args.self.now c.last-last.result c.args.ca c.args.cb c.is_smaller.result c.last-last.ensures c.is_smaller.ensures c.if-is_smaller.false
