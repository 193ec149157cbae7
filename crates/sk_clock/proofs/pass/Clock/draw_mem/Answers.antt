use Rattle.std.proofs.Common.{◌≡◌, ◌+◌, refl, sym, ap, subst, arith}
use Rattle.sk_weave.specs.declared.event.Event.TheVariants.{DrawMem}
use Rattle.sk_clock.specs.declared.view.WordStep.TheVariants.{Load, Change}
use Rattle.sk_clock.specs.Steps.{AnyStep, DrawsMem}
use Rattle.sk_clock.specs.Kept.{Extends, Swaps, now}
use Rattle.sk_clock.proofs.Makings.{either-hit, either-miss, looks_first, looks_on}
use Rattle.sk_clock.proofs.Held.{any-last}
use Rattle.sk_clock.proofs.Views.{loaded, step_grows, mem_small}
use Rattle.sk_clock.proofs.Clocks.{shaped_of}
use Rattle.sk_clock.proofs.Drawing.{draws_mem}
use Rattle.sk_clock.proofs.pass.Clock.draw_mem.Goals as goal

pub loop-found-init : goal.loop-found-init
loop-found-init c = let e = c.load-found.ensures in record {
  of = e.0;
  looks = looks_first _ _ _ tt e.1;
  sees = e.1.legal;
  own = e.1.all_seen;
  found = loaded _ _ _ _ e.1;
  small = mem_small _ _ _ (shaped_of c.args.self.now c.load-found.new.pass e.0) e.1;
}

pub returns-then-seen-found-clause-answer : goal.returns-then-seen-found-clause-answer
returns-then-seen-found-clause-answer c =
    let u = c.loop-found.pass.view in
    let w = c.exchange-seen.new.pass.view in
    let n = c.loop-found.found in
    let h = either-hit (Swaps u 0 n (DrawMem (n + 1)) w) (Extends u (Load 0 c.exchange-seen.result) w) c.exchange-seen.result n c.if-seen-found.true c.exchange-seen.ensures.1 in
    draws_mem c.args.pass.now.view u w n c.args.floor c.loop-found.invariant.looks c.loop-found-test.true c.if-floor-found.true h

pub returns-then-seen-found-clause-held : goal.returns-then-seen-found-clause-held
returns-then-seen-found-clause-held c =
    let u = c.loop-found.pass.view in
    let w = c.exchange-seen.new.pass.view in
    let n = c.loop-found.found in
    let h = either-hit (Swaps u 0 n (DrawMem (n + 1)) w) (Extends u (Load 0 c.exchange-seen.result) w) c.exchange-seen.result n c.if-seen-found.true c.exchange-seen.ensures.1 in
    subst (AnyStep (DrawsMem (n + 1))) (sym (ap (λ o. o.steps) h.extends.own)) (any-last (DrawsMem (n + 1)) u.own.steps (Change (DrawMem (n + 1))) refl)

pub loop-found-smaller : goal.loop-found-smaller
loop-found-smaller c =
    let u = c.loop-found.pass.view in
    let w = c.exchange-seen.new.pass.view in
    let n = c.loop-found.found in
    let h = either-miss (Swaps u 0 n (DrawMem (n + 1)) w) (Extends u (Load 0 c.exchange-seen.result) w) c.exchange-seen.result n c.if-seen-found.false c.exchange-seen.ensures.1 in
    let up = (step_grows u _ w h).mem in
    let is = c.loop-found.invariant.found in
    let now_is : c.exchange-seen.result ≡ (now w).mem = loaded _ _ _ _ h in
    let ne = c.if-seen-found.false in
    let room = c.loop-found-test.true in
    omega arith

pub loop-found-preserved : goal.loop-found-preserved
loop-found-preserved c =
    let u = c.loop-found.pass.view in
    let w = c.exchange-seen.new.pass.view in
    let n = c.loop-found.found in
    let h = either-miss (Swaps u 0 n (DrawMem (n + 1)) w) (Extends u (Load 0 c.exchange-seen.result) w) c.exchange-seen.result n c.if-seen-found.false c.exchange-seen.ensures.1 in record {
      of = c.exchange-seen.ensures.0;
      looks = looks_on _ _ _ _ tt c.loop-found.invariant.looks h;
      sees = h.legal;
      own = h.all_seen;
      found = loaded _ _ _ _ h;
      small = mem_small _ _ _ (shaped_of c.args.self.now c.exchange-seen.new.pass c.exchange-seen.ensures.0) h;
    }
