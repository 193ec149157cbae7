use Rattle.std.proofs.Common.{ap, sym, ◌∙◌, ◌+◌, ◌*◌, length}
use Rattle.sk_points.specs.Parts.{RingPart}
use Rattle.sk_points.proofs.Shapes.{count, newest_is}
use Rattle.sk_points.proofs.points.Points.len.Goals as goal

pub returns : goal.returns
returns c =
    let s = c.requires.1.shape in
    ap (λ n. c.args.self.now.newest * c.args.self.now.size + n)
    (c.len.ensures ∙ ap (λ (p : RingPart). length p.points) (c.index.ensures ∙ newest_is c.args.self.now.parts.items c.args.self.now.newest c.args.self.now.size c.index.result.now s))
    ∙ sym (count c.args.self.now.parts.items c.args.self.now.newest c.args.self.now.size s)
