use Rattle.std.proofs.Common.{◌-◌, ◌+◌, length}
use Rattle.sk_clock.specs.Kept.{Looks, now}
use Rattle.sk_clock.specs.Of.{IsOf}
use Rattle.sk_clock.proofs.pass.Clock.select.Given as goal

abbrev pub invariant-loop-oldest : goal.invariant-loop-oldest
invariant-loop-oldest l = record {
  of : IsOf l.self l.pass;
  looks : Looks l.fn.pass.view l.pass.view;
}

abbrev pub decreases-loop-oldest : goal.decreases-loop-oldest
decreases-loop-oldest l = 18446744073709551616 - (length (now l.pass.view).points + (now l.pass.view).low)
