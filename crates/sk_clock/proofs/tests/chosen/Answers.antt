use Rattle.std.proofs.Common.{arith}
use Rattle.sk_clock.proofs.Passing.{finds_less}
use Rattle.sk_clock.proofs.tests.chosen.Goals as goal

pub select-requires-clause-begun : goal.select-requires-clause-begun
select-requires-clause-begun c = let l = c.if-begin-a.false in finds_less c.args.a c.begin.result _ (omega arith) c.begin.ensures.held
