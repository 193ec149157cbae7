use Rattle.sk_points.proofs.Calls.{cut_made, cut_not_made}
use Rattle.sk_points.proofs.points.Points.append_cut.Goals as goal

pub returns-then-made : goal.returns-then-made
returns-then-made c = cut_made c.args.self.now c.append.new.self c.last.result c.args.x c.args.y c.makes_cut-made.result c.last.ensures c.makes_cut-made.ensures c.if-made.true c.requires c.append.ensures

pub returns-else-made : goal.returns-else-made
returns-else-made c = cut_not_made c.args.self.now c.last.result c.args.x c.args.y c.makes_cut-made.result c.last.ensures c.makes_cut-made.ensures c.if-made.false
