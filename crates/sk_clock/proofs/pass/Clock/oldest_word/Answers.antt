use Rattle.std.proofs.Common.{◌≡◌, ◌<◌, ◌*◌, ℕ, subst, rules, arith}
use Rattle.sk_clock.specs.declared.view.WordStep.TheVariants.{Load}
use Rattle.sk_clock.specs.Kept.{Extends, now}
use Rattle.sk_clock.proofs.Makings.{looks_first, looks_on}
use Rattle.sk_clock.proofs.Views.{loaded, step_grows}
use Rattle.sk_clock.proofs.Walking.{low_small, finds_oldest}
use Rattle.sk_clock.proofs.Clocks.{size_is, shaped_of, first_place_is}
use Rattle.sk_clock.proofs.pass.Clock.oldest_word.Goals as goal

pub loop-low-init : goal.loop-low-init
loop-low-init c =
    let e = c.load-low.ensures in
    let w = c.load-low.new.pass.view in
    let is = loaded _ 2 c.load-low.result w e.1 in
    let up = (step_grows _ _ w e.1).low in
    record { of = e.0; looks = looks_first _ _ _ tt e.1; low_is = is; legal = e.1.legal; since = omega arith }

pub overflow_mul-low : goal.overflow_mul-low
overflow_mul-low c =
    let i = c.loop-low.invariant in
    let p = c.loop-low.pass in
    let small = low_small p.view (shaped_of c.args.self.now p i.of) i.legal in
    let same : c.loop-low.low * c.args.self.now.size ≡ (now p.view).low * p.view.start.size = (let a = i.low_is in let b = size_is c.args.self.now p i.of in λ j. a j * b j) in
    let l = small.0 in
    let fits : c.loop-low.low * c.args.self.now.size < 9223372036854775808 = omega arith in
    search rules

pub loop-low-smaller : goal.loop-low-smaller
loop-low-smaller c =
    let i = c.loop-low.invariant in
    let p = c.loop-low.pass in
    let e = c.load-word.ensures in
    let f = c.load-again.ensures in
    let small = low_small p.view (shaped_of c.args.self.now p i.of) i.legal in
    let a = small.0 in let b = small.1 in let is = i.low_is in
    let up = (step_grows _ _ _ e.1).low in
    let on = (step_grows _ _ _ f.1).low in
    let again = loaded _ 2 c.load-again.result _ f.1 in
    let ne = c.if-again-low.false in
    omega arith

pub loop-low-preserved : goal.loop-low-preserved
loop-low-preserved c =
    let i = c.loop-low.invariant in
    let e = c.load-word.ensures in
    let f = c.load-again.ensures in
    let up = (step_grows _ _ _ e.1).low in
    let on = (step_grows _ _ _ f.1).low in
    let again = loaded _ 2 c.load-again.result _ f.1 in
    let is = i.low_is in let since = i.since in
    record { of = f.0; looks = looks_on _ _ _ _ tt (looks_on _ _ _ _ tt i.looks e.1) f.1; low_is = again; legal = f.1.legal; since = omega arith }

pub returns-then-again-low : goal.returns-then-again-low
returns-then-again-low c =
    let i = c.loop-low.invariant in
    let e = c.load-word.ensures in
    let f = c.load-again.ensures in
    let low = c.loop-low.low in
    let u = c.loop-low.pass.view in
    let x = c.load-word.new.pass.view in
    let w = c.load-again.new.pass.view in
    let a = subst (λ (n : ℕ). Extends u (Load n c.load-word.result) x) (first_place_is c.args.self.now c.load-again.new.pass f.0 low) e.1 in
    let b = subst (λ (n : ℕ). Extends x (Load 2 n) w) c.if-again-low.true f.1 in
    (f.0, finds_oldest _ u x w low c.load-word.result (shaped_of c.args.self.now c.load-again.new.pass f.0) i.looks i.low_is i.since a b)
