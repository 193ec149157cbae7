use Rattle.std.proofs.Common.{◌≡◌, ◌+◌, refl, sym, ap, subst, arith}
use Rattle.sk_weave.specs.declared.event.Event.TheVariants.{DrawStore}
use Rattle.sk_clock.specs.declared.view.WordStep.TheVariants.{Load, Change}
use Rattle.sk_clock.specs.Steps.{DrawsMem, DrawsStore, HasDrawn}
use Rattle.sk_clock.specs.Kept.{Extends, Swaps, now}
use Rattle.sk_clock.proofs.Makings.{either-hit, either-miss, looks_first, looks_on}
use Rattle.sk_clock.proofs.Held.{then-last, looks_any}
use Rattle.sk_clock.proofs.Views.{loaded, step_grows, store_small}
use Rattle.sk_clock.proofs.Clocks.{shaped_of}
use Rattle.sk_clock.proofs.Drawing.{draws_store}
use Rattle.sk_clock.proofs.pass.Clock.draw_store.Goals as goal

pub loop-found-init : goal.loop-found-init
loop-found-init c = let e = c.load-found.ensures in record {
  of = e.0;
  looks = looks_first _ _ _ tt e.1;
  sees = e.1.legal;
  own = e.1.all_seen;
  found = loaded _ _ _ _ e.1;
  small = store_small _ _ _ (shaped_of c.args.self.now c.load-found.new.pass e.0) e.1;
}

pub returns-then-seen-found-clause-answer : goal.returns-then-seen-found-clause-answer
returns-then-seen-found-clause-answer c =
    let u = c.loop-found.pass.view in
    let w = c.exchange-seen.new.pass.view in
    let n = c.loop-found.found in
    let h = either-hit (Swaps u 1 n (DrawStore (n + 1)) w) (Extends u (Load 1 c.exchange-seen.result) w) c.exchange-seen.result n c.if-seen-found.true c.exchange-seen.ensures.1 in
    draws_store c.args.pass.now.view u w n c.args.floor c.loop-found.invariant.looks c.loop-found-test.true c.if-floor-found.true h

pub returns-then-seen-found-clause-held : goal.returns-then-seen-found-clause-held
returns-then-seen-found-clause-held c =
    let u = c.loop-found.pass.view in
    let w = c.exchange-seen.new.pass.view in
    let n = c.loop-found.found in
    let h = either-hit (Swaps u 1 n (DrawStore (n + 1)) w) (Extends u (Load 1 c.exchange-seen.result) w) c.exchange-seen.result n c.if-seen-found.true c.exchange-seen.ensures.1 in
    λ a had. subst (HasDrawn a (n + 1)) (sym (ap (λ o. o.steps) h.extends.own)) (then-last (DrawsMem a) (DrawsStore (n + 1)) u.own.steps (Change (DrawStore (n + 1))) (looks_any (DrawsMem a) c.args.pass.now.view u c.loop-found.invariant.looks had) refl)

pub loop-found-smaller : goal.loop-found-smaller
loop-found-smaller c =
    let u = c.loop-found.pass.view in
    let w = c.exchange-seen.new.pass.view in
    let n = c.loop-found.found in
    let h = either-miss (Swaps u 1 n (DrawStore (n + 1)) w) (Extends u (Load 1 c.exchange-seen.result) w) c.exchange-seen.result n c.if-seen-found.false c.exchange-seen.ensures.1 in
    let up = (step_grows u _ w h).store in
    let is = c.loop-found.invariant.found in
    let now_is : c.exchange-seen.result ≡ (now w).store = loaded _ _ _ _ h in
    let ne = c.if-seen-found.false in
    let room = c.loop-found-test.true in
    omega arith

pub loop-found-preserved : goal.loop-found-preserved
loop-found-preserved c =
    let u = c.loop-found.pass.view in
    let w = c.exchange-seen.new.pass.view in
    let n = c.loop-found.found in
    let h = either-miss (Swaps u 1 n (DrawStore (n + 1)) w) (Extends u (Load 1 c.exchange-seen.result) w) c.exchange-seen.result n c.if-seen-found.false c.exchange-seen.ensures.1 in record {
      of = c.exchange-seen.ensures.0;
      looks = looks_on _ _ _ _ tt c.loop-found.invariant.looks h;
      sees = h.legal;
      own = h.all_seen;
      found = loaded _ _ _ _ h;
      small = store_small _ _ _ (shaped_of c.args.self.now c.exchange-seen.new.pass c.exchange-seen.ensures.0) h;
    }
