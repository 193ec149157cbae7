use Rattle.std.proofs.Common.{◌≡◌, ◌≤◌, ◌%◌, ◌+◌, ℕ, Bool, cond, ◌∙◌, sym, ap, subst, rules, arith}
use Rattle.std.proofs.lemmas.Bool.{not-true, not-false}
use Rattle.std.specs.Prelude.{max}
use Rattle.sk_model.specs.declared.point.Point.{Point}
use Rattle.sk_weave.specs.declared.answer.Selected.{Selected}
use Rattle.sk_weave.specs.Points.{CanFollow, point_at, selection, pick_newest}
use Rattle.sk_clock.specs.declared.view.WordStep.TheVariants.{Load}
use Rattle.sk_clock.specs.History.{capacity}
use Rattle.sk_clock.specs.Kept.{Extends, now}
use Rattle.sk_clock.specs.Walks.{Appends, LooksPast}
use Rattle.sk_clock.specs.Selections.{SelectsAt}
use Rattle.std.specs.Prelude.{Ok}
use Rattle.sk_clock.proofs.Makings.{looks_first, looks_on}
use Rattle.sk_clock.proofs.Views.{store_small}
use Rattle.sk_clock.proofs.Clocks.{shaped_of, place_is}
use Rattle.sk_clock.proofs.Finds.{word_there, at_small, later_last, still_last, past_from, beaten}
use Rattle.sk_clock.proofs.Choosing.{selects, selects_new, pair_drawn, pair_held, pair_small, last_drawn, many_then, upto_max, newest_follows}
use Rattle.sk_clock.proofs.pass.Clock.select_newest.Goals as goal

pub overflow_cast-store : goal.overflow_cast-store
overflow_cast-store c = let e = c.load-store.ensures in let l : c.load-store.result ≤ 2147483647 = store_small _ _ _ (shaped_of c.args.self.now c.load-store.new.pass e.0) e.1 in search rules

pub overflow_add-last : goal.overflow_add-last
overflow_add-last c = let l = at_small _ _ _ _ _ _ (shaped_of c.args.self.now c.args.pass.now c.requires.of) c.requires.found.1 in search rules

pub unpack-requires : goal.unpack-requires
unpack-requires c = word_there _ _ _ _ _ _ (shaped_of c.args.self.now c.args.pass.now c.requires.of) c.requires.found.1

pub returns-then-next-last-clause-beaten : goal.returns-then-next-last-clause-beaten
returns-then-next-last-clause-beaten c =
    let e = c.load-store.ensures in
    let g = c.load-next.ensures in
    let k = c.args.last.at in
    let y = c.load-store.new.pass.view in
    let w = c.load-next.new.pass.view in
    let f = later_last _ _ y c.args.last.low k c.args.last.word c.args.last.next (Load 1 c.load-store.result) tt c.requires.found.1 e.1 in
    let h = subst (λ (n : ℕ). Extends y (Load n c.load-next.result) w) (place_is c.args.self.now c.load-store.new.pass e.0 (k + 1)) g.1 in
    past_from _ y w c.args.last.low k (looks_first _ _ _ tt e.1) (beaten _ y c.args.last.low k c.args.last.word c.args.last.next (shaped_of c.args.self.now c.load-store.new.pass e.0) f c.load-next.result w h c.if-next-last.true)

pub returns-then-not-chosen-clause-selected : goal.returns-then-not-chosen-clause-selected
returns-then-not-chosen-clause-selected c =
    let e = c.load-store.ensures in
    let g = c.load-next.ensures in
    let a = c.args.a in
    let k = c.args.last.at in
    let word = c.args.last.word in
    let store = c.load-store.result in
    let y = c.load-store.new.pass.view in
    let w = c.load-next.new.pass.view in
    let shaped = shaped_of c.args.self.now c.load-next.new.pass g.0 in
    let f = later_last _ y w c.args.last.low k word c.args.last.next _ tt (later_last _ _ y c.args.last.low k word c.args.last.next (Load 1 store) tt c.requires.found.1 e.1) g.1 in
    let h = subst (λ (n : ℕ). Extends y (Load n c.load-next.result) w) (place_is c.args.self.now c.load-next.new.pass g.0 (k + 1)) g.1 in
    let still = still_last _ w c.args.last.low k word c.args.last.next shaped f y (subst (λ (n : ℕ). Extends y (Load ((k + 1) % capacity w.start + 3) n) w) c.if-next-last.false h) in
    let there = many_then _ _ _ _ _ _ (shaped_of c.args.self.now c.args.pass.now c.requires.of) c.requires.found.1 in
    let is : c.pick_newest-chosen.result ≡ pick_newest (point_at word) a store = c.pick_newest-chosen.ensures ∙ ap (λ (p : Point). pick_newest p a store) c.unpack.ensures in
    subst (λ (s : Selected). SelectsAt c.args.pass.now.view a (Ok s) w) (sym is)
    (selects c.args.pass.now.view y w a store _ c.load-next.result k (point_at word) shaped e.1 g.1 still.0 still.1 there c.requires.anchor (sym (ap (λ (s : Selected). s.made) is) ∙ not-true c.pick_newest-chosen.result.made c.if-not-chosen.true))

pub append-requires-clause-found : goal.append-requires-clause-found
append-requires-clause-found c =
    let l = c.args.last in
    let y = c.load-store.new.pass.view in
    let w = c.load-next.new.pass.view in
    (c.requires.found.0, later_last _ y w l.low l.at l.word l.next _ tt (later_last _ _ y l.low l.at l.word l.next (Load 1 c.load-store.result) tt c.requires.found.1 c.load-store.ensures.1) c.load-next.ensures.1)

pub append-requires-clause-drawn : goal.append-requires-clause-drawn
append-requires-clause-drawn c =
    let l = c.args.last in
    let a = c.args.a in
    let store = c.load-store.result in
    let e = c.load-store.ensures in
    let g = c.load-next.ensures in
    let y = c.load-store.new.pass.view in
    let w = c.load-next.new.pass.view in
    let f = later_last _ y w l.low l.at l.word l.next _ tt (later_last _ _ y l.low l.at l.word l.next (Load 1 store) tt c.requires.found.1 e.1) g.1 in
    let d = pair_drawn c.args.pass.now.view y w a store e.1 (looks_first _ _ _ tt g.1) g.1.legal g.1.all_seen c.requires.begun in
    let last = last_drawn _ w l.low l.at l.word l.next (shaped_of c.args.self.now c.load-next.new.pass g.0) f in
    let is : c.pick_newest-chosen.result ≡ pick_newest (point_at l.word) a store = c.pick_newest-chosen.ensures ∙ ap (λ (p : Point). pick_newest p a store) c.unpack.ensures in
    (d.0, subst (λ (b : ℕ). b ≤ (now w).store) (sym (ap (λ (s : Selected). s.b) is)) (upto_max (point_at l.word).b store (now w).store last d.1))

pub append-requires-clause-small : goal.append-requires-clause-small
append-requires-clause-small c =
    let l = c.args.last in
    let a = c.args.a in
    let store = c.load-store.result in
    let e = c.load-store.ensures in
    let g = c.load-next.ensures in
    let y = c.load-store.new.pass.view in
    let w = c.load-next.new.pass.view in
    let shaped = shaped_of c.args.self.now c.load-next.new.pass g.0 in
    let f = later_last _ y w l.low l.at l.word l.next _ tt (later_last _ _ y l.low l.at l.word l.next (Load 1 store) tt c.requires.found.1 e.1) g.1 in
    let d = pair_drawn c.args.pass.now.view y w a store e.1 (looks_first _ _ _ tt g.1) g.1.legal g.1.all_seen c.requires.begun in
    let last = last_drawn _ w l.low l.at l.word l.next shaped f in
    let is : c.pick_newest-chosen.result ≡ pick_newest (point_at l.word) a store = c.pick_newest-chosen.ensures ∙ ap (λ (p : Point). pick_newest p a store) c.unpack.ensures in
    let b : c.pick_newest-chosen.result.b ≤ (now w).store = subst (λ (b : ℕ). b ≤ (now w).store) (sym (ap (λ (s : Selected). s.b) is)) (upto_max (point_at l.word).b store (now w).store last d.1) in
    pair_small w a c.pick_newest-chosen.result.b shaped g.1.legal d.0 b

pub append-requires-clause-follows : goal.append-requires-clause-follows
append-requires-clause-follows c =
    let word = c.args.last.word in
    let a = c.args.a in
    let store = c.load-store.result in
    let is : c.pick_newest-chosen.result ≡ pick_newest (point_at word) a store = c.pick_newest-chosen.ensures ∙ ap (λ (p : Point). pick_newest p a store) c.unpack.ensures in
    subst (λ (b : ℕ). CanFollow (point_at word) (selection a b)) (sym (ap (λ (s : Selected). s.b) is)) (newest_follows (point_at word) a store c.requires.anchor (sym (ap (λ (s : Selected). s.made) is) ∙ not-false c.pick_newest-chosen.result.made c.if-not-chosen.false))

pub append-requires-clause-held : goal.append-requires-clause-held
append-requires-clause-held c =
    let word = c.args.last.word in
    let a = c.args.a in
    let store = c.load-store.result in
    let y = c.load-store.new.pass.view in
    let w = c.load-next.new.pass.view in
    let is : c.pick_newest-chosen.result ≡ pick_newest (point_at word) a store = c.pick_newest-chosen.ensures ∙ ap (λ (p : Point). pick_newest p a store) c.unpack.ensures in
    let b = ap (λ (s : Selected). s.b) is in
    let less : store ≤ max (point_at word).b store = omega arith in
    pair_held c.args.pass.now.view y w a c.pick_newest-chosen.result.b store c.load-store.ensures.1 (looks_first _ _ _ tt c.load-next.ensures.1) c.requires.begun (subst (λ (n : ℕ). store ≤ n) (sym b) less)

pub returns-then-append-clause-selected : goal.returns-then-append-clause-selected
returns-then-append-clause-selected c =
    let e = c.load-store.ensures in
    let g = c.load-next.ensures in
    let a = c.args.a in
    let l = c.args.last in
    let word = c.args.last.word in
    let store = c.load-store.result in
    let y = c.load-store.new.pass.view in
    let w = c.load-next.new.pass.view in
    let x = c.append.new.pass.view in
    let there = many_then _ _ _ _ _ _ (shaped_of c.args.self.now c.args.pass.now c.requires.of) c.requires.found.1 in
    let is : c.pick_newest-chosen.result ≡ pick_newest (point_at word) a store = c.pick_newest-chosen.ensures ∙ ap (λ (p : Point). pick_newest p a store) c.unpack.ensures in
    let h : Appends w l.at (selection a c.pick_newest-chosen.result.b) (point_at word) x = subst (λ (t : Bool). cond t (Appends w l.at (selection a c.pick_newest-chosen.result.b) (point_at word) x) (LooksPast w l.low l.at x)) c.if-append.true c.append.ensures.made in
    subst (λ (s : Selected). SelectsAt c.args.pass.now.view a (Ok s) x) (sym is)
    (selects_new c.args.pass.now.view y w x a store l.at (point_at word) (shaped_of c.args.self.now c.load-next.new.pass g.0) e.1 (looks_first _ _ _ tt g.1) there c.requires.anchor (sym (ap (λ (s : Selected). s.made) is) ∙ not-false c.pick_newest-chosen.result.made c.if-not-chosen.false)
    (subst (λ (b : ℕ). Appends w l.at (selection a b) (point_at word) x) (ap (λ (s : Selected). s.b) is) h))

pub returns-clause-beaten : goal.returns-clause-beaten
returns-clause-beaten c =
    let l = c.args.last in
    let w = c.load-next.new.pass.view in
    let x = c.append.new.pass.view in
    let h : LooksPast w l.low l.at x = subst (λ (t : Bool). cond t (Appends w l.at (selection c.args.a c.pick_newest-chosen.result.b) (point_at l.word) x) (LooksPast w l.low l.at x)) c.if-append.false c.append.ensures.made in
    past_from _ w x l.low l.at (looks_on _ _ _ _ tt (looks_first _ _ _ tt c.load-store.ensures.1) c.load-next.ensures.1) h
