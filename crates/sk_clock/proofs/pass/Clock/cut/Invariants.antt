use Rattle.std.proofs.Common.{◌-◌, ◌+◌, length}
use Rattle.sk_clock.specs.Kept.{Looks, now}
use Rattle.sk_clock.specs.Of.{IsOf}
use Rattle.sk_clock.proofs.pass.Clock.cut.Given as goal

abbrev pub invariant-loop-point : goal.invariant-loop-point
invariant-loop-point l = record {
  of : IsOf l.self l.pass;
  looks : Looks l.fn.pass.view l.pass.view;
}

abbrev pub decreases-loop-point : goal.decreases-loop-point
decreases-loop-point l = 18446744073709551616 - (length (now l.pass.view).points + (now l.pass.view).low)
