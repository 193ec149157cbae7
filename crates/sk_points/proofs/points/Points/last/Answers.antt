use Rattle.std.proofs.Common.{ap, ◌∙◌, ◌-◌, length, get_or}
use Rattle.sk_points.specs.Parts.{RingPart}
use Rattle.sk_points.proofs.Shapes.{last_point, newest_is}
use Rattle.sk_points.proofs.points.Points.last.Goals as goal

pub returns : goal.returns
returns c =
    let s = c.requires.1.shape in
    let here = c.index-part.ensures ∙ newest_is c.args.self.now.parts.items c.args.self.now.newest c.args.self.now.size c.index-part.result.now s in
    c.get.ensures ∙ ap (λ n. get_or c.index-part.result.now.points (n - 1) c.get.result) c.len.ensures ∙ ap (λ (p : RingPart). get_or p.points (length p.points - 1) c.get.result) here
    ∙ last_point c.args.self.now.parts.items c.args.self.now.newest c.args.self.now.size c.get.result s
