use Rattle.std.proofs.Common.{rules}
use Rattle.sk_shared.proofs.Numbered.{from_zero}
use Rattle.sk_shared.proofs.joining.join.Goals as goal

pub loop-commit-init : goal.loop-commit-init
loop-commit-init c = (search rules, from_zero c.args.name c.args.points.now)
