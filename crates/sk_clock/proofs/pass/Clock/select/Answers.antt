use Rattle.std.proofs.Common.{ℕ, sym, subst}
use Rattle.std.specs.Prelude.{Ok, Err, false}
use Rattle.sk_clock.specs.Steps.{FindsMem}
use Rattle.sk_clock.specs.Selections.{SelectsAt}
use Rattle.sk_clock.proofs.Makings.{looks-none, looks_then}
use Rattle.sk_clock.proofs.Held.{looks_any}
use Rattle.sk_clock.proofs.Clocks.{shaped_of}
use Rattle.sk_clock.proofs.Finds.{nearer}
use Rattle.sk_clock.proofs.Choosing.{answers_older, answers_recycled, selects_from}
use Rattle.sk_clock.proofs.pass.Clock.select.Goals as goal

pub loop-oldest-init : goal.loop-oldest-init
loop-oldest-init c = record { of = c.requires.of; looks = looks-none c.args.pass.now.view }

pub returns-in-Gone-clause-answer : goal.returns-in-Gone-clause-answer
returns-in-Gone-clause-answer c =
    let u = c.loop-oldest.pass.view in
    let w = c.seek.new.pass.view in
    selects_from c.args.pass.now.view u w c.args.a (Err (record { a = c.args.a; oldest = c.in-Gone.oldest })) c.loop-oldest.invariant.looks
    (answers_recycled u w c.args.a c.in-Gone.oldest (shaped_of c.args.self.now c.seek.new.pass c.seek.ensures.of) c.in-Gone.ensures.found)

pub returns-in-Between-clause-answer : goal.returns-in-Between-clause-answer
returns-in-Between-clause-answer c =
    let u = c.loop-oldest.pass.view in
    let w = c.seek.new.pass.view in
    subst (λ (n : ℕ). SelectsAt c.args.pass.now.view c.args.a (Ok (record { b = n; made = false })) w) (sym c.before_b.ensures)
    (selects_from c.args.pass.now.view u w c.args.a _ c.loop-oldest.invariant.looks
    (answers_older u w c.args.a c.in-Between.field-0 c.in-Between.next (shaped_of c.args.self.now c.seek.new.pass c.seek.ensures.of) c.in-Between.ensures.found))

pub select_newest-requires-clause-begun : goal.select_newest-requires-clause-begun
select_newest-requires-clause-begun c = let f = c.in-Last.ensures.found.0 in
    looks_any (FindsMem c.args.a) c.args.pass.now.view c.seek.new.pass.view (looks_then _ _ _ c.loop-oldest.invariant.looks (looks_then _ _ _ f.before f.later)) c.requires.begun

pub returns-in-Some-clause-answer : goal.returns-in-Some-clause-answer
returns-in-Some-clause-answer c = let f = c.in-Last.ensures.found.0 in
    selects_from c.args.pass.now.view c.seek.new.pass.view c.select_newest.new.pass.view c.args.a (Ok c.in-Some.chosen) (looks_then _ _ _ c.loop-oldest.invariant.looks (looks_then _ _ _ f.before f.later)) c.in-Some.ensures.selected

pub loop-oldest-smaller : goal.loop-oldest-smaller
loop-oldest-smaller c = let l = c.in-Last.last in
    nearer c.loop-oldest.pass.view c.seek.new.pass.view c.select_newest.new.pass.view l.low l.at l.word l.next (shaped_of c.args.self.now c.select_newest.new.pass c.select_newest.ensures.of) c.in-Last.ensures.found.0 c.in_default.ensures.beaten

pub loop-oldest-preserved : goal.loop-oldest-preserved
loop-oldest-preserved c = let f = c.in-Last.ensures.found.0 in record {
  of = c.select_newest.ensures.of;
  looks = looks_then _ _ _ c.loop-oldest.invariant.looks (looks_then _ _ _ (looks_then _ _ _ f.before f.later) c.in_default.ensures.beaten.looks);
}
