use Rattle.std.proofs.Common.{◌≤◌, ap, ◌∙◌, arith}
use Rattle.sk_recorded.specs.Joined.{from_number}
use Rattle.sk_shared.proofs.Numbered.{from_later}
use Rattle.sk_shared.proofs.joining.walk_to.Goals as goal

pub returns-clause-rest : goal.returns-clause-rest
returns-clause-rest c =
    let le : c.args.walk.last ≤ c.args.n = omega (arith, c.if-n-walk.false) in
    c.from_number-rest-2.ensures ∙ ap (from_number c.args.name c.args.n) c.requires ∙ from_later c.args.name c.args.walk.last c.args.n le c.args.points.now
