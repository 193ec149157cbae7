use Rattle.sk_points.proofs.Calls.{select_appends}
use Rattle.sk_points.proofs.points.PointsRegistry.select.Goals as goal

pub returns-then-selected : goal.returns-then-selected
returns-then-selected c = select_appends c.args.self.now c.append.new.self c.args.a c.first-oldest.result c.pick-selected.result c.first-oldest.ensures c.if-a-oldest.false c.pick-selected.ensures c.if-selected.true c.requires c.append.ensures
