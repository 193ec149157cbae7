use Rattle.std.proofs.Common.{◌-◌, ◌+◌, length}
use Rattle.sk_clock.specs.Kept.{Looks, now}
use Rattle.sk_clock.specs.Of.{IsOf}
use Rattle.sk_clock.proofs.pass.Clock.check.Given as goal

abbrev pub invariant-loop-found : goal.invariant-loop-found
invariant-loop-found l = record {
  of : IsOf l.self l.pass;
  looks : Looks l.fn.pass.view l.pass.view;
}

abbrev pub decreases-loop-found : goal.decreases-loop-found
decreases-loop-found l = 18446744073709551616 - (length (now l.pass.view).points + (now l.pass.view).low)
