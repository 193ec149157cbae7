use Rattle.std.proofs.Common.{arith}
use Rattle.sk_clock.proofs.Passing.{finds_less}
use Rattle.sk_clock.proofs.tests.cut_at.Goals as goal

pub cut-requires-clause-begun : goal.cut-requires-clause-begun
cut-requires-clause-begun c = let l = c.if-begin-x.false in finds_less c.args.x c.begin.result _ (omega arith) c.begin.ensures.held
