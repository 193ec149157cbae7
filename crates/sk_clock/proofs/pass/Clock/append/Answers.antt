use Rattle.std.proofs.Common.{◌≡◌, ◌≤◌, ◌<◌, ◌*◌, ◌+◌, eqb, refl, rules, arith, le_trans, mul-le-mul_right}
use Rattle.sk_clock.specs.Kept.{now}
use Rattle.sk_clock.proofs.Ring.{spread}
use Rattle.sk_clock.proofs.Clocks.{size_is, parts_is, shaped_of, place_is, low_fits}
use Rattle.sk_clock.proofs.Finds.{bounds, at_small, grows_from, can_try, tried, can_lift, lifted}
use Rattle.sk_clock.proofs.pass.Clock.append.Goals as goal

pub overflow_add-at : goal.overflow_add-at
overflow_add-at c = let f = c.requires.found.1 in let l = at_small _ _ _ _ _ _ (shaped_of c.args.self.now c.args.pass.now c.requires.of) f in search rules

pub overflow_add-place : goal.overflow_add-place
overflow_add-place c = let f = c.requires.found.1 in let l = at_small _ _ _ _ _ _ (shaped_of c.args.self.now c.args.pass.now c.requires.of) f in search rules

pub overflow_add-low : goal.overflow_add-low
overflow_add-low c =
    let f = c.requires.found.1 in
    let shaped = shaped_of c.args.self.now c.args.pass.now c.requires.of in
    let up = (grows_from _ _ _ _ _ _ shaped f).low in
    let b : (now c.args.pass.now.view).low < 9223372036854775808 = (bounds c.args.pass.now.view shaped f.legal).1 in
    let s = f.seen in
    let parts = c.args.self.now.starts.partitions in
    let l : c.args.last.low + c.args.self.now.parts < 9223372036854775808 + 65 = omega arith in
    search rules

pub overflow_mul-low : goal.overflow_mul-low
overflow_mul-low c =
    let of = c.requires.of in
    let f = c.requires.found.1 in
    let shaped = shaped_of c.args.self.now c.args.pass.now of in
    let up = (grows_from _ _ _ _ _ _ shaped f).low in
    let starts = c.args.self.now.starts in
    let few = starts.partitions in
    let small = starts.size in
    let a = low_fits c.args.self.now c.args.pass.now of f.legal c.args.last.low (le_trans f.seen up) in
    let d = spread c.args.last.low c.args.self.now.parts c.args.self.now.size in
    let m : c.args.self.now.parts * c.args.self.now.size ≤ 64 * c.args.self.now.size = mul-le-mul_right c.args.self.now.size (omega arith) in
    let l : (c.args.last.low + c.args.self.now.parts) * c.args.self.now.size < 9223372036854775808 + 262145 = omega arith in
    search rules

pub exchange-found-requires-clause-step : goal.exchange-found-requires-clause-step
exchange-found-requires-clause-step c =
    let of = c.requires.of in
    let w = c.args.pass.now in
    let shaped = shaped_of c.args.self.now w of in
    let k = c.args.last.at in
    let same : (c.args.last.low + c.args.self.now.parts) * c.args.self.now.size ≡ (c.args.last.low + w.view.start.partitions) * w.view.start.size = (λ i. (c.args.last.low + (parts_is c.args.self.now w of) i) * (size_is c.args.self.now w of) i) in
    let room = c.if-at-low.true in
    can_try _ w.view c.args.last.low k c.args.last.word c.args.last.next shaped c.requires.found.1 c.args.point c.requires.small _ _ (place_is c.args.self.now w of (k + 1)) c.pack.ensures (omega arith) c.requires.follows c.requires.drawn.0 c.requires.drawn.1 c.requires.held

pub returns-then-at-low-clause-made : goal.returns-then-at-low-clause-made
returns-then-at-low-clause-made c =
    let of = c.requires.of in
    let w = c.args.pass.now in
    let k = c.args.last.at in
    tried _ w.view c.exchange-found.new.pass.view c.args.last.low k c.args.last.word c.args.last.next (shaped_of c.args.self.now w of) c.requires.found.1 c.args.point c.requires.small _ _ c.exchange-found.result (place_is c.args.self.now w of (k + 1)) c.pack.ensures (eqb c.exchange-found.result c.args.last.next) refl c.exchange-found.ensures.1

pub exchange-requires-clause-step : goal.exchange-requires-clause-step
exchange-requires-clause-step c =
    let of = c.requires.of in
    let w = c.args.pass.now in
    let same : (c.args.last.low + c.args.self.now.parts) * c.args.self.now.size ≡ (c.args.last.low + w.view.start.partitions) * w.view.start.size = (λ i. (c.args.last.low + (parts_is c.args.self.now w of) i) * (size_is c.args.self.now w of) i) in
    let full = c.if-at-low.false in
    can_lift _ _ _ _ _ _ (shaped_of c.args.self.now w of) c.requires.found.1 (omega arith)

pub returns-clause-made : goal.returns-clause-made
returns-clause-made c =
    let of = c.requires.of in
    let w = c.args.pass.now in
    lifted _ w.view _ _ _ _ (shaped_of c.args.self.now w of) c.requires.found.1 c.exchange.result c.exchange.new.pass.view (eqb c.exchange.result c.args.last.low) refl c.exchange.ensures.1
