use Rattle.std.proofs.Common.{◌≡◌, ◌≤◌, ℕ, Bool, true, cond, ◌∙◌, sym, subst, rules, arith, le_of_eq}
use Rattle.sk_model.specs.declared.point.Point.{Point}
use Rattle.sk_weave.specs.Points.{point_at, selection}
use Rattle.sk_weave.specs.Registry.{is_within}
use Rattle.sk_clock.specs.declared.view.WordStep.TheVariants.{Load}
use Rattle.sk_clock.specs.Steps.{FindsMem}
use Rattle.sk_clock.specs.Kept.{now}
use Rattle.sk_clock.specs.Walks.{Appends, LooksPast}
use Rattle.sk_clock.proofs.Makings.{looks-none, looks_on, looks_then}
use Rattle.sk_clock.proofs.Held.{looks_any}
use Rattle.sk_clock.proofs.Ring.{longer}
use Rattle.sk_clock.proofs.Views.{store_small, step_grows}
use Rattle.sk_clock.proofs.Clocks.{shaped_of}
use Rattle.sk_clock.proofs.Finds.{word_there, nearer}
use Rattle.sk_clock.proofs.Choosing.{pair_drawn, pair_held, pair_small}
use Rattle.sk_clock.proofs.Horizons.{cuts_gone, cuts_between, cuts_last, cuts_made, cut_goes}
use Rattle.sk_clock.proofs.pass.Clock.cut.Goals as goal

pub loop-point-init : goal.loop-point-init
loop-point-init c = record { of = c.requires.of; looks = looks-none c.args.pass.now.view }

pub overflow_cast-store : goal.overflow_cast-store
overflow_cast-store c = let e = c.load-store.ensures in let l : c.load-store.result ≤ 2147483647 = store_small _ _ _ (shaped_of c.args.self.now c.load-store.new.pass e.0) e.1 in search rules

pub returns-in-Gone-clause-answer : goal.returns-in-Gone-clause-answer
returns-in-Gone-clause-answer c =
    cuts_gone c.args.pass.now.view c.loop-point.pass.view c.load-store.new.pass.view c.seek.new.pass.view (shaped_of c.args.self.now c.seek.new.pass c.seek.ensures.of) c.args.x c.args.y c.load-store.result c.loop-point.invariant.looks c.load-store.ensures.1 _ c.in-Gone.ensures.found

pub returns-in-Between-clause-answer : goal.returns-in-Between-clause-answer
returns-in-Between-clause-answer c =
    cuts_between c.args.pass.now.view c.loop-point.pass.view c.load-store.new.pass.view c.seek.new.pass.view (shaped_of c.args.self.now c.seek.new.pass c.seek.ensures.of) c.args.x c.args.y c.load-store.result c.loop-point.invariant.looks c.load-store.ensures.1 _ _ c.in-Between.ensures.found

pub unpack-point-requires : goal.unpack-point-requires
unpack-point-requires c = word_there _ _ _ _ _ _ (shaped_of c.args.self.now c.seek.new.pass c.seek.ensures.of) c.in-Last.ensures.found.0

pub returns-then-not-makes_cut-clause-answer : goal.returns-then-not-makes_cut-clause-answer
returns-then-not-makes_cut-clause-answer c =
    let f = c.in-Last.ensures.found in
    let last = c.in-Last.last in
    let inside : is_within c.args.x c.args.y c.unpack-point.result ≡ true = subst (λ (p : Point). is_within c.args.x c.args.y p ≡ true) (sym c.unpack-point.ensures) f.1 in
    cuts_last c.args.pass.now.view c.loop-point.pass.view c.load-store.new.pass.view c.seek.new.pass.view (shaped_of c.args.self.now c.seek.new.pass c.seek.ensures.of) c.args.x c.args.y c.load-store.result c.loop-point.invariant.looks c.load-store.ensures.1
    last.low last.at last.word last.next f.0 c.unpack-point.result c.unpack-point.ensures inside (sym c.makes_cut.ensures ∙ c.if-not-makes_cut.true)

pub append-requires-clause-found : goal.append-requires-clause-found
append-requires-clause-found c = (c.load-store.new.pass.view, c.in-Last.ensures.found.0)

pub append-requires-clause-drawn : goal.append-requires-clause-drawn
append-requires-clause-drawn c =
    let f = c.in-Last.ensures.found.0 in
    let w = c.seek.new.pass.view in
    let goes = cut_goes c.unpack-point.result (point_at c.in-Last.last.word) c.args.x c.args.y c.load-store.result c.unpack-point.ensures (sym c.makes_cut.ensures ∙ c.if-not-makes_cut.false) in
    let d = pair_drawn c.loop-point.pass.view c.load-store.new.pass.view w c.args.x c.load-store.result c.load-store.ensures.1 (looks_then _ _ _ f.before f.later) f.legal f.all_seen (looks_any (FindsMem c.args.x) c.args.pass.now.view c.loop-point.pass.view c.loop-point.invariant.looks c.requires.begun) in
    (d.0, subst (λ (n : ℕ). n ≤ (now w).store) goes.1 d.1)

pub append-requires-clause-small : goal.append-requires-clause-small
append-requires-clause-small c =
    let f = c.in-Last.ensures.found.0 in
    let w = c.seek.new.pass.view in
    let goes = cut_goes c.unpack-point.result (point_at c.in-Last.last.word) c.args.x c.args.y c.load-store.result c.unpack-point.ensures (sym c.makes_cut.ensures ∙ c.if-not-makes_cut.false) in
    let d = pair_drawn c.loop-point.pass.view c.load-store.new.pass.view w c.args.x c.load-store.result c.load-store.ensures.1 (looks_then _ _ _ f.before f.later) f.legal f.all_seen (looks_any (FindsMem c.args.x) c.args.pass.now.view c.loop-point.pass.view c.loop-point.invariant.looks c.requires.begun) in
    pair_small w c.args.x c.args.y (shaped_of c.args.self.now c.seek.new.pass c.seek.ensures.of) f.legal d.0 (subst (λ (n : ℕ). n ≤ (now w).store) goes.1 d.1)

pub append-requires-clause-follows : goal.append-requires-clause-follows
append-requires-clause-follows c = (cut_goes c.unpack-point.result (point_at c.in-Last.last.word) c.args.x c.args.y c.load-store.result c.unpack-point.ensures (sym c.makes_cut.ensures ∙ c.if-not-makes_cut.false)).0

pub append-requires-clause-held : goal.append-requires-clause-held
append-requires-clause-held c =
    let f = c.in-Last.ensures.found.0 in
    let goes = cut_goes c.unpack-point.result (point_at c.in-Last.last.word) c.args.x c.args.y c.load-store.result c.unpack-point.ensures (sym c.makes_cut.ensures ∙ c.if-not-makes_cut.false) in
    pair_held c.loop-point.pass.view c.load-store.new.pass.view c.seek.new.pass.view c.args.x c.args.y c.load-store.result c.load-store.ensures.1 (looks_then _ _ _ f.before f.later) (looks_any (FindsMem c.args.x) c.args.pass.now.view c.loop-point.pass.view c.loop-point.invariant.looks c.requires.begun) (le_of_eq goes.1)

pub returns-then-append-clause-answer : goal.returns-then-append-clause-answer
returns-then-append-clause-answer c =
    let last = c.in-Last.last in
    let w = c.seek.new.pass.view in
    let z = c.append.new.pass.view in
    let p : Point = selection c.args.x c.args.y in
    let h : Appends w last.at p (point_at last.word) z = subst (λ (t : Bool). cond t (Appends w last.at p (point_at last.word) z) (LooksPast w last.low last.at z)) c.if-append.true c.append.ensures.made in
    cuts_made c.args.pass.now.view c.loop-point.pass.view c.load-store.new.pass.view w (shaped_of c.args.self.now c.seek.new.pass c.seek.ensures.of) c.args.x c.args.y c.load-store.result c.loop-point.invariant.looks c.load-store.ensures.1
    last.low last.at last.word last.next c.in-Last.ensures.found.0 c.unpack-point.result c.unpack-point.ensures z (sym c.makes_cut.ensures ∙ c.if-not-makes_cut.false) h

pub loop-point-smaller : goal.loop-point-smaller
loop-point-smaller c =
    let last = c.in-Last.last in
    let u = c.loop-point.pass.view in
    let y = c.load-store.new.pass.view in
    let w = c.seek.new.pass.view in
    let z = c.append.new.pass.view in
    let p : Point = selection c.args.x c.args.y in
    let h : LooksPast w last.low last.at z = subst (λ (t : Bool). cond t (Appends w last.at p (point_at last.word) z) (LooksPast w last.low last.at z)) c.if-append.false c.append.ensures.made in
    let n = nearer y w z last.low last.at last.word last.next (shaped_of c.args.self.now c.append.new.pass c.append.ensures.of) c.in-Last.ensures.found.0 h in
    let g = step_grows u (Load 1 c.load-store.result) y c.load-store.ensures.1 in
    let more = longer (now u) (now y) g in
    let up = g.low in
    omega arith

pub loop-point-preserved : goal.loop-point-preserved
loop-point-preserved c =
    let f = c.in-Last.ensures.found.0 in
    let last = c.in-Last.last in
    let w = c.seek.new.pass.view in
    let z = c.append.new.pass.view in
    let p : Point = selection c.args.x c.args.y in
    let h : LooksPast w last.low last.at z = subst (λ (t : Bool). cond t (Appends w last.at p (point_at last.word) z) (LooksPast w last.low last.at z)) c.if-append.false c.append.ensures.made in
    record { of = c.append.ensures.of; looks = looks_then _ _ _ (looks_on _ _ _ _ tt c.loop-point.invariant.looks c.load-store.ensures.1) (looks_then _ _ _ (looks_then _ _ _ f.before f.later) h.looks) }
