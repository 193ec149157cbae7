use Rattle.std.proofs.Common.{◌≡◌, ◌-◌, ◌≤◌}
use Rattle.sk_clock.specs.Kept.{Looks, Sees, now}
use Rattle.sk_clock.specs.Steps.{steps_by}
use Rattle.sk_clock.specs.Of.{IsOf}
use Rattle.sk_clock.proofs.pass.Clock.draw_store.Given as goal

abbrev pub invariant-loop-found : goal.invariant-loop-found
invariant-loop-found l = record {
  of : IsOf l.self l.pass;
  looks : Looks l.fn.pass.view l.pass.view;
  sees : Sees l.pass.view;
  own : steps_by l.pass.view.own.path l.pass.view.seen ≡ l.pass.view.own.steps;
  found : l.found ≡ (now l.pass.view).store;
  small : l.found ≤ 2147483647;
}

abbrev pub decreases-loop-found : goal.decreases-loop-found
decreases-loop-found l = 2147483647 - l.found
