use Rattle.std.proofs.Common.{◌≡◌, ◌≤◌, ◌*◌, ℕ, ◌+◌, true, ◌∙◌, sym, subst, rules, arith, le_of_eq, mul-le-mul_right}
use Rattle.sk_weave.specs.Registry.{is_within}
use Rattle.sk_clock.specs.declared.view.WordStep.TheVariants.{Load}
use Rattle.sk_clock.specs.Kept.{Extends}
use Rattle.sk_clock.proofs.Choosing.{point_is}
use Rattle.sk_clock.proofs.Makings.{looks_on, looks_then}
use Rattle.sk_clock.proofs.Views.{loaded, step_grows}
use Rattle.sk_clock.proofs.Walking.{still, goes_on, ends, point_small}
use Rattle.sk_clock.proofs.Clocks.{size_is, shaped_of, place_is, low_fits}
use Rattle.sk_clock.proofs.pass.Clock.seek.Goals as goal

pub overflow_add-spot : goal.overflow_add-spot
overflow_add-spot c = let i = c.loop-spot.invariant in let l = point_small _ _ _ (shaped_of c.args.self.now c.loop-spot.pass i.of) i.legal i.stands in search rules

pub overflow_add-spot-then-next-spot : goal.overflow_add-spot-then-next-spot
overflow_add-spot-then-next-spot c = let i = c.loop-spot.invariant in let l = point_small _ _ _ (shaped_of c.args.self.now c.loop-spot.pass i.of) i.legal i.stands in search rules

pub overflow_mul-again : goal.overflow_mul-again
overflow_mul-again c = let f = c.load-again.ensures in let is = loaded _ 2 c.load-again.result _ f.1 in let l = low_fits c.args.self.now c.load-again.new.pass f.0 f.1.legal c.load-again.result (le_of_eq is) in search rules

pub returns-in-Err-start-clause-found : goal.returns-in-Err-start-clause-found
returns-in-Err-start-clause-found c =
    let e = c.load-next.ensures in
    let f = c.load-again.ensures in
    let g = c.in-Err-start.ensures.gone in record {
      looks = looks_then _ _ _ (looks_on _ _ _ _ tt (looks_on _ _ _ _ tt c.loop-spot.invariant.looks e.1) f.1) g.looks;
      oldest = g.oldest;
      past = g.past;
      legal = g.legal;
      all_seen = g.all_seen;
    }

pub loop-spot-smaller-then-again-size : goal.loop-spot-smaller-then-again-size
loop-spot-smaller-then-again-size c =
    let f = c.load-again.ensures in
    let i = c.loop-spot.invariant in
    let s = c.in-Ok-start.ensures.spot in
    let of = c.in-Ok-start.ensures.of in
    let l = point_small _ _ _ (shaped_of c.args.self.now c.loop-spot.pass i.of) i.legal i.stands in
    let is = loaded _ 2 c.load-again.result _ f.1 in
    let since : c.load-again.result ≤ c.in-Ok-start.spot.low = (let t = s.since in omega arith) in
    let up : c.load-again.result * c.args.self.now.size ≤ c.in-Ok-start.spot.low * c.args.self.now.size = mul-le-mul_right c.args.self.now.size since in
    let above : c.in-Ok-start.spot.low * c.args.self.now.size ≤ c.in-Ok-start.spot.at = subst (λ (n : ℕ). c.in-Ok-start.spot.low * n ≤ c.in-Ok-start.spot.at) (sym (size_is c.args.self.now c.start-then-again-size.new.pass of)) s.above in
    let past = c.if-again-size.true in
    omega arith

pub loop-spot-preserved-then-again-size : goal.loop-spot-preserved-then-again-size
loop-spot-preserved-then-again-size c =
    let e = c.load-next.ensures in
    let f = c.load-again.ensures in
    let s = c.in-Ok-start.ensures.spot in record {
      of = c.in-Ok-start.ensures.of;
      looks = looks_then _ _ _ (looks_on _ _ _ _ tt (looks_on _ _ _ _ tt c.loop-spot.invariant.looks e.1) f.1) s.looks;
      legal = s.legal;
      stands = s.stands;
      inside = s.inside;
      since = (let ux = (step_grows _ _ _ e.1).low in let xw = (step_grows _ _ _ f.1).low in let os = s.since in let is = c.loop-spot.invariant.since in let sn = c.loop-spot.invariant.seen in omega arith);
      seen = s.seen;
    }

pub returns-then-not-is_within-clause-found : goal.returns-then-not-is_within-clause-found
returns-then-not-is_within-clause-found c =
    let i = c.loop-spot.invariant in
    let k = c.loop-spot.spot.at in
    let word = c.loop-spot.spot.word in
    let e = c.load-next.ensures in
    let f = c.load-again.ensures in
    let u = c.loop-spot.pass.view in
    let x = c.load-next.new.pass.view in
    let w = c.load-again.new.pass.view in
    let shaped = shaped_of c.args.self.now c.load-again.new.pass f.0 in
    let a = subst (λ (n : ℕ). Extends u (Load n c.load-next.result) x) (place_is c.args.self.now c.load-again.new.pass f.0 (k + 1)) e.1 in
    let at_k : c.load-again.result * w.start.size ≤ k = subst (λ (n : ℕ). c.load-again.result * n ≤ k) (size_is c.args.self.now c.load-again.new.pass f.0) c.if-again-size.false in
    let live : c.load-again.result * w.start.size ≤ k + 1 = omega arith in
    let here = still x k word w (step_grows _ _ _ f.1) (still u k word x (step_grows _ _ _ e.1) i.stands) in
    let there = goes_on u x w k word c.load-next.result c.load-again.result shaped i.stands a f.1 live c.if-next-spot.true in record {
      looks = looks_on _ _ _ _ tt (looks_on _ _ _ _ tt i.looks e.1) f.1;
      at = k;
      live = subst (λ (n : ℕ). n * w.start.size ≤ k) (loaded _ 2 c.load-again.result _ f.1) at_k;
      there = there.there;
      p_is = c.unpack.ensures ∙ point_is w k word shaped f.1.legal here;
      q_is = c.unpack-point.ensures ∙ point_is w (k + 1) c.load-next.result shaped f.1.legal there;
      inside = subst (λ p. is_within c.args.x c.args.y p ≡ true) (sym c.unpack.ensures) i.inside;
      past = sym c.is_within.ensures ∙ c.if-not-is_within.true;
      legal = f.1.legal;
      all_seen = f.1.all_seen;
    }

pub loop-spot-smaller : goal.loop-spot-smaller
loop-spot-smaller c = let i = c.loop-spot.invariant in let l = point_small _ _ _ (shaped_of c.args.self.now c.loop-spot.pass i.of) i.legal i.stands in omega arith

pub loop-spot-preserved : goal.loop-spot-preserved
loop-spot-preserved c =
    let i = c.loop-spot.invariant in
    let k = c.loop-spot.spot.at in
    let e = c.load-next.ensures in
    let f = c.load-again.ensures in
    let u = c.loop-spot.pass.view in
    let x = c.load-next.new.pass.view in
    let w = c.load-again.new.pass.view in
    let shaped = shaped_of c.args.self.now c.load-again.new.pass f.0 in
    let a = subst (λ (n : ℕ). Extends u (Load n c.load-next.result) x) (place_is c.args.self.now c.load-again.new.pass f.0 (k + 1)) e.1 in
    let at_k : c.load-again.result * w.start.size ≤ k = subst (λ (n : ℕ). c.load-again.result * n ≤ k) (size_is c.args.self.now c.load-again.new.pass f.0) c.if-again-size.false in
    let live : c.load-again.result * w.start.size ≤ k + 1 = omega arith in
    let up = (step_grows _ _ _ e.1).low in
    let on = (step_grows _ _ _ f.1).low in
    let seen = i.seen in record {
      of = f.0;
      looks = looks_on _ _ _ _ tt (looks_on _ _ _ _ tt i.looks e.1) f.1;
      legal = f.1.legal;
      stands = goes_on u x w k c.loop-spot.spot.word c.load-next.result c.load-again.result shaped i.stands a f.1 live c.if-next-spot.true;
      inside = subst (λ p. is_within c.args.x c.args.y p ≡ true) c.unpack-point.ensures (sym c.is_within.ensures ∙ c.if-not-is_within.false);
      since = i.since;
      seen = omega arith;
    }

pub returns-else-next-spot-clause-found : goal.returns-else-next-spot-clause-found
returns-else-next-spot-clause-found c =
    let i = c.loop-spot.invariant in
    let k = c.loop-spot.spot.at in
    let e = c.load-next.ensures in
    let f = c.load-again.ensures in
    let u = c.loop-spot.pass.view in
    let x = c.load-next.new.pass.view in
    let w = c.load-again.new.pass.view in
    let shaped = shaped_of c.args.self.now c.load-again.new.pass f.0 in
    let a = subst (λ (n : ℕ). Extends u (Load n c.load-next.result) x) (place_is c.args.self.now c.load-again.new.pass f.0 (k + 1)) e.1 in
    let at_k : c.load-again.result * w.start.size ≤ k = subst (λ (n : ℕ). c.load-again.result * n ≤ k) (size_is c.args.self.now c.load-again.new.pass f.0) c.if-again-size.false in
    let live : c.load-again.result * w.start.size ≤ k + 1 = omega arith in
    (ends u x w k c.loop-spot.spot.word c.load-next.result c.load-again.result shaped i.stands a f.1 live _ c.loop-spot.spot.low i.looks i.seen i.since c.if-next-spot.false, i.inside)
