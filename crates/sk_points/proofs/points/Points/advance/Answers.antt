use Rattle.std.proofs.Common.{◌≡◌, ◌+◌, length, arith}
use Rattle.sk_points.proofs.Shapes.{newest_there}
use Rattle.sk_points.proofs.Adding.{turned_in_place}
use Rattle.sk_points.proofs.points.Points.advance.Goals as goal

pub returns-else-self-len-clause-parts : goal.returns-else-self-len-clause-parts
returns-else-self-len-clause-parts c =
    let there = newest_there c.args.self.now.parts.items c.args.self.now.newest c.args.self.now.size c.requires.1.shape in
    let last : length c.args.self.now.parts.items ≡ c.args.self.now.newest + 1 = omega (arith, there, c.len.ensures, c.args.self.now.parts.ok.0, c.if-self-len.false) in
    turned_in_place c.args.self.now.parts.items c.rotate_left.new.self.items c.args.self.now.newest c.index_mut.result.now c.clear.new.self last c.rotate_left.ensures.items c.index_mut.ensures.value c.clear.ensures
