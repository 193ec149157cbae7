use Rattle.std.proofs.Common.{◌≡◌, ◌≤◌, ◌<◌, ◌%◌, ap, sym, subst, ◌∙◌, length, get_or, arith}
use Rattle.sk_points.specs.Parts.{RingPart}
use Rattle.sk_points.proofs.Shapes.{At, point_at}
use Rattle.sk_points.proofs.points.Points.point.Goals as goal

pub get-requires : goal.get-requires
get-requires c =
    let h = c.requires.stands.1 in
    let two : 2 ≤ c.requires.stands.0.size = h.sound.size.0 in
    let is : c.args.self.now.size ≡ c.requires.stands.0.size = h.size in
    let at : At c.args.self.now.parts.items c.args.self.now.size c.args.at = point_at c.args.self.now.parts.items c.args.self.now.newest c.args.self.now.size c.args.at (omega arith) h.shape c.requires.there in
    subst (λ (p : RingPart). c.args.at % c.args.self.now.size < length p.points) (sym c.index.ensures) (at.there c.index.result.now)

pub returns : goal.returns
returns c =
    let h = c.requires.stands.1 in
    let two : 2 ≤ c.requires.stands.0.size = h.sound.size.0 in
    let is : c.args.self.now.size ≡ c.requires.stands.0.size = h.size in
    let at : At c.args.self.now.parts.items c.args.self.now.size c.args.at = point_at c.args.self.now.parts.items c.args.self.now.newest c.args.self.now.size c.args.at (omega arith) h.shape c.requires.there in
    c.get.ensures ∙ ap (λ (p : RingPart). get_or p.points (c.args.at % c.args.self.now.size) c.get.result) c.index.ensures ∙ sym (at.is c.get.result c.index.result.now)
