use Rattle.std.proofs.Common.{◌-◌, ◌≤◌}
use Rattle.sk_clock.specs.Kept.{Looks, Sees, now}
use Rattle.sk_clock.specs.Of.{IsOf}
use Rattle.sk_clock.specs.Walks.{StandsAt}
use Rattle.sk_clock.proofs.pass.Clock.last.Given as goal

abbrev pub invariant-loop-k : goal.invariant-loop-k
invariant-loop-k l = record {
  of : IsOf l.self l.pass;
  looks : Looks l.fn.pass.view l.pass.view;
  legal : Sees l.pass.view;
  stands : StandsAt l.pass.view l.k l.word;
  since : (now l.fn.pass.view).low ≤ l.low;
  seen : l.low ≤ (now l.pass.view).low;
}

abbrev pub decreases-loop-k : goal.decreases-loop-k
decreases-loop-k l = 9223372036854775808 - l.k
