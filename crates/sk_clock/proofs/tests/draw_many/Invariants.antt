use Rattle.sk_clock.specs.Of.{IsOf}
use Rattle.sk_clock.proofs.tests.draw_many.Given as goal

abbrev pub invariant-loop : goal.invariant-loop
invariant-loop l = IsOf l.clock l.pass
