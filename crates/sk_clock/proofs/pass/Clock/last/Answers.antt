use Rattle.std.proofs.Common.{◌≤◌, ◌*◌, ℕ, ◌+◌, sym, subst, rules, arith, le_of_eq, mul-le-mul_right}
use Rattle.sk_clock.specs.declared.view.WordStep.TheVariants.{Load}
use Rattle.sk_clock.specs.Kept.{Extends}
use Rattle.sk_clock.specs.Walks.{StandsAt}
use Rattle.sk_clock.proofs.Makings.{looks_on, looks_then}
use Rattle.sk_clock.proofs.Views.{loaded, step_grows}
use Rattle.sk_clock.proofs.Walking.{goes_on, ends, point_small}
use Rattle.sk_clock.proofs.Clocks.{size_is, shaped_of, place_is, low_fits}
use Rattle.sk_clock.proofs.pass.Clock.last.Goals as goal

pub loop-k-init : goal.loop-k-init
loop-k-init c = let o = c.oldest_word-low.ensures in let f = o.1 in let w = c.oldest_word-low.new.pass.view in record {
  of = o.0;
  looks = f.looks;
  legal = f.legal;
  stands = subst (λ (n : ℕ). StandsAt w (c.oldest_word-low.result.0 * n) c.oldest_word-low.result.1) (sym (size_is c.args.self.now c.oldest_word-low.new.pass o.0)) f.stands;
  since = f.since;
  seen = f.seen;
}

pub overflow_mul-k : goal.overflow_mul-k
overflow_mul-k c = let o = c.oldest_word-low.ensures in let l = low_fits c.args.self.now c.oldest_word-low.new.pass o.0 o.1.legal c.oldest_word-low.result.0 o.1.seen in search rules

pub overflow_add-k : goal.overflow_add-k
overflow_add-k c = let i = c.loop-k.invariant in let l = point_small _ _ _ (shaped_of c.args.self.now c.loop-k.pass i.of) i.legal i.stands in search rules

pub overflow_add-k-in-loop-k-2 : goal.overflow_add-k-in-loop-k-2
overflow_add-k-in-loop-k-2 c = let i = c.loop-k.invariant in let l = point_small _ _ _ (shaped_of c.args.self.now c.loop-k.pass i.of) i.legal i.stands in search rules

pub overflow_add-k-then-next-word : goal.overflow_add-k-then-next-word
overflow_add-k-then-next-word c = let i = c.loop-k.invariant in let l = point_small _ _ _ (shaped_of c.args.self.now c.loop-k.pass i.of) i.legal i.stands in search rules

pub overflow_mul-again : goal.overflow_mul-again
overflow_mul-again c = let f = c.load-again.ensures in let is = loaded _ 2 c.load-again.result _ f.1 in let l = low_fits c.args.self.now c.load-again.new.pass f.0 f.1.legal c.load-again.result (le_of_eq is) in search rules

pub overflow_mul-k-then-again-size : goal.overflow_mul-k-then-again-size
overflow_mul-k-then-again-size c = let o = c.oldest_word.ensures in let l = low_fits c.args.self.now c.oldest_word.new.pass o.0 o.1.legal c.oldest_word.result.0 o.1.seen in search rules

pub loop-k-smaller-then-again-size : goal.loop-k-smaller-then-again-size
loop-k-smaller-then-again-size c =
    let f = c.load-again.ensures in
    let o = c.oldest_word.ensures in
    let i = c.loop-k.invariant in
    let l = point_small _ _ _ (shaped_of c.args.self.now c.loop-k.pass i.of) i.legal i.stands in
    let is = loaded _ 2 c.load-again.result _ f.1 in
    let since : c.load-again.result ≤ c.oldest_word.result.0 = (let s = o.1.since in omega arith) in
    let up : c.load-again.result * c.args.self.now.size ≤ c.oldest_word.result.0 * c.args.self.now.size = mul-le-mul_right c.args.self.now.size since in
    let past = c.if-again-size.true in
    omega arith

pub loop-k-preserved-then-again-size : goal.loop-k-preserved-then-again-size
loop-k-preserved-then-again-size c =
    let e = c.load-next.ensures in
    let f = c.load-again.ensures in
    let o = c.oldest_word.ensures in
    let w = c.oldest_word.new.pass.view in
    record {
      of = o.0;
      looks = looks_then _ _ _ (looks_on _ _ _ _ tt (looks_on _ _ _ _ tt c.loop-k.invariant.looks e.1) f.1) o.1.looks;
      legal = o.1.legal;
      stands = subst (λ (n : ℕ). StandsAt w (c.oldest_word.result.0 * n) c.oldest_word.result.1) (sym (size_is c.args.self.now c.oldest_word.new.pass o.0)) o.1.stands;
      since = (let ux = (step_grows _ _ _ e.1).low in let xw = (step_grows _ _ _ f.1).low in let os = o.1.since in let is = c.loop-k.invariant.since in let sn = c.loop-k.invariant.seen in omega arith);
      seen = o.1.seen;
    }

pub loop-k-smaller : goal.loop-k-smaller
loop-k-smaller c = let i = c.loop-k.invariant in let l = point_small _ _ _ (shaped_of c.args.self.now c.loop-k.pass i.of) i.legal i.stands in omega arith

pub loop-k-preserved : goal.loop-k-preserved
loop-k-preserved c =
    let i = c.loop-k.invariant in
    let k = c.loop-k.k in
    let e = c.load-next.ensures in
    let f = c.load-again.ensures in
    let u = c.loop-k.pass.view in
    let x = c.load-next.new.pass.view in
    let w = c.load-again.new.pass.view in
    let shaped = shaped_of c.args.self.now c.load-again.new.pass f.0 in
    let a = subst (λ (n : ℕ). Extends u (Load n c.load-next.result) x) (place_is c.args.self.now c.load-again.new.pass f.0 (k + 1)) e.1 in
    let live : c.load-again.result * w.start.size ≤ k + 1 = subst (λ (n : ℕ). c.load-again.result * n ≤ k + 1) (size_is c.args.self.now c.load-again.new.pass f.0) c.if-again-size.false in
    let up = (step_grows _ _ _ e.1).low in
    let on = (step_grows _ _ _ f.1).low in
    let seen = i.seen in record {
      of = f.0;
      looks = looks_on _ _ _ _ tt (looks_on _ _ _ _ tt i.looks e.1) f.1;
      legal = f.1.legal;
      stands = goes_on u x w k c.loop-k.word c.load-next.result c.load-again.result shaped i.stands a f.1 live c.if-next-word.true;
      since = i.since;
      seen = omega arith;
    }

pub returns-else-next-word : goal.returns-else-next-word
returns-else-next-word c =
    let i = c.loop-k.invariant in
    let k = c.loop-k.k in
    let e = c.load-next.ensures in
    let f = c.load-again.ensures in
    let u = c.loop-k.pass.view in
    let x = c.load-next.new.pass.view in
    let w = c.load-again.new.pass.view in
    let shaped = shaped_of c.args.self.now c.load-again.new.pass f.0 in
    let a = subst (λ (n : ℕ). Extends u (Load n c.load-next.result) x) (place_is c.args.self.now c.load-again.new.pass f.0 (k + 1)) e.1 in
    let live : c.load-again.result * w.start.size ≤ k + 1 = subst (λ (n : ℕ). c.load-again.result * n ≤ k + 1) (size_is c.args.self.now c.load-again.new.pass f.0) c.if-again-size.false in
    (f.0, ends u x w k c.loop-k.word c.load-next.result c.load-again.result shaped i.stands a f.1 live _ c.loop-k.low i.looks i.seen i.since c.if-next-word.false)
