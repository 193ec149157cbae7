use Rattle.std.proofs.Common.{◌≡◌, ◌-◌, ◌≤◌, true}
use Rattle.sk_clock.specs.Kept.{Looks, Sees, now}
use Rattle.sk_clock.specs.Of.{IsOf}
use Rattle.sk_weave.specs.Points.{point_at}
use Rattle.sk_weave.specs.Registry.{is_within}
use Rattle.sk_clock.specs.Walks.{StandsAt}
use Rattle.sk_clock.proofs.pass.Clock.seek.Given as goal

abbrev pub invariant-loop-spot : goal.invariant-loop-spot
invariant-loop-spot l = record {
  of : IsOf l.self l.pass;
  looks : Looks l.fn.pass.view l.pass.view;
  legal : Sees l.pass.view;
  stands : StandsAt l.pass.view l.spot.at l.spot.word;
  inside : is_within l.x l.y (point_at l.spot.word) ≡ true;
  since : (now l.fn.pass.view).low ≤ l.spot.low;
  seen : l.spot.low ≤ (now l.pass.view).low;
}

abbrev pub decreases-loop-spot : goal.decreases-loop-spot
decreases-loop-spot l = 9223372036854775808 - l.spot.at
