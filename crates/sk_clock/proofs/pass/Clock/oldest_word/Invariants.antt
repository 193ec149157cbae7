use Rattle.std.proofs.Common.{◌≡◌, ◌-◌, ◌≤◌}
use Rattle.sk_clock.specs.Kept.{Looks, Sees, now}
use Rattle.sk_clock.specs.Of.{IsOf}
use Rattle.sk_clock.proofs.pass.Clock.oldest_word.Given as goal

abbrev pub invariant-loop-low : goal.invariant-loop-low
invariant-loop-low l = record {
  of : IsOf l.self l.pass;
  looks : Looks l.fn.pass.view l.pass.view;
  low_is : l.low ≡ (now l.pass.view).low;
  legal : Sees l.pass.view;
  since : (now l.fn.pass.view).low ≤ l.low;
}

abbrev pub decreases-loop-low : goal.decreases-loop-low
decreases-loop-low l = 9223372036854775808 - l.low
