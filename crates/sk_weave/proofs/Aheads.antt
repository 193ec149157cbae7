-- What a transaction saw of both counters when it began, and the points that calls append.
use Rattle.std.specs.Prelude.{◌≡◌, ℕ, zero, suc, List, [], ◌∷◌, Option, Some, None, Result, Ok, Err, Bool, true, false, cond, not, ◌&&◌, ◌==◌, ◌-◌, ◌*◌, ◌<◌, ◌≤◌, nat_lt, length, drop, get_or}
use Rattle.std.proofs.Common.{refl, sym, subst, ⊎_elim, arith}
use Rattle.std.proofs.lemmas.Bool.{cases_Bool, cases_lt, cond_both, and_parts, eqb-true, lt-ltb, le-ltb, false≢true}
use Rattle.sk_model.specs.declared.point.Point.{Point}
use Rattle.sk_model.specs.declared.point.Recycled.{Recycled}
use Rattle.sk_model.proofs.Lists.{Each, each_append}
use Rattle.sk_weave.specs.declared.answer.Selected.{Selected}
use Rattle.sk_weave.specs.declared.answer.DrawFault.{DrawFault}
use Rattle.sk_weave.specs.declared.event.Event.TheVariants.{DrawMem, DrawStore}
use Rattle.sk_weave.specs.Points.{selection, commit_point, CanFollow, Climbs, Ascends, Staircase, before_b, last_from, first_past, chosen, pick}
use Rattle.sk_weave.specs.Registry.{Grows, Regs, no_point, first_of, last_of, oldest_of, after_all, append_steps, appended, selected, drawn, draw_steps, passes, is_within, makes_cut}
use Rattle.sk_weave.specs.AheadLaws.{Counters, counters_of, Ahead, AreAhead, AheadAtFirst, AheadStays, LookIsPast, SelectionIsFresh, SelectionIsLive}
use Rattle.sk_weave.proofs.Staircase.{climbs_both, stairs_ascend}
use Rattle.sk_weave.proofs.Registers.{points_after_append, first_dropped, ok_is}

-- no anchor is past the last one's
upto_last : (p : Point) (qs : List Point) → Climbs p qs → Each (λ (q : Point). q.a ≤ (last_from p qs).a) (p ∷ qs)
upto_last p [] h = (omega arith, tt)
upto_last p (q ∷ qs) h =
    let ih : Each (λ (r : Point). r.a ≤ (last_from q qs).a) (q ∷ qs) = upto_last q qs h.1 in
    let l : q.a ≤ (last_from q qs).a = ih.0 in
    let s : p.a ≤ q.a = h.0.a_stays in
    (omega arith, ih)

pub at_first : AheadAtFirst
at_first r h = go r.points h.stairs h.a_drawn
  where
    all : (m : ℕ) (qs : List Point) → m ≤ r.mem → Each (λ (q : Point). q.a ≤ m) qs → AreAhead (counters_of r) qs
    all m [] l k = tt
    all m (q ∷ qs) l k = let here : q.a ≤ m = k.0 in ((λ past. absurd (omega arith)), all m qs l k.1)

    go : (points : List Point) → Staircase points → (last_of points).a ≤ r.mem → AreAhead (counters_of r) points
    go [] s l = tt
    go (p ∷ qs) s l = all (last_from p qs).a (p ∷ qs) l (upto_last p qs s.1)

with_point : (seen : Counters) (r : Regs) (q : Point) → AreAhead seen r.points → Ahead seen q → AreAhead seen (appended r q).points
with_point seen r q h k = subst (λ ps. AreAhead seen ps) (sym (points_after_append r q)) (each_append (Ahead seen) r.points (q ∷ []) h (k, tt))

if_appended : (seen : Counters) (r : Regs) (b : Bool) (q : Point) → AreAhead seen r.points → (b ≡ true → Ahead seen q) → AreAhead seen (after_all r (cond b (append_steps r q) [])).points
if_appended seen r true q h k = with_point seen r q h (k refl)
if_appended seen r false q h k = h

-- a selection that makes a point has a number that is at least the storage counter
made_past : (points : List Point) (a now : ℕ) → (pick points a now).made ≡ true → now ≤ (pick points a now).b
made_past [] a now t = omega arith
made_past (p ∷ qs) a now t = go (first_past a (p ∷ qs)) t
  where
    go : (o : Option Point) → (chosen o (last_from p qs) a now).made ≡ true → now ≤ (chosen o (last_from p qs) a now).b
    go None t = omega arith
    go (Some q) t = absurd (false≢true t)

pub ahead_stays : AheadStays
ahead_stays seen r h = record {
  draws_mem = λ floor. draws_mem (drawn r.mem floor);
  draws_store = λ floor. draws_store (drawn r.store floor);
  selects = λ a now l. ⊎_elim
      (λ (t : nat_lt a (oldest_of r).a ≡ true). rw t h)
      (λ (f : nat_lt a (oldest_of r).a ≡ false).
      rw f (if_appended seen r (pick r.points a now).made (selection a (pick r.points a now).b) h
      (λ t past. let m : now ≤ (pick r.points a now).b = made_past r.points a now t in let s : seen.store ≤ now = l past in omega arith)))
      (cases_Bool (nat_lt a (oldest_of r).a));
  checks = λ ca cb l. if_appended seen r (passes r ca cb) (commit_point ca cb) h (λ t past. let s : seen.store < cb = l past in omega arith);
  cuts = λ x y now l. if_appended seen r (makes_cut r x y now) (selection x y) h
      (λ t past.
      let same : now ≡ y = eqb-true now y (and_parts (now == y) (is_within x y (last_of r.points) && not (((last_of r.points).a == x) && ((last_of r.points).b == y))) t).0 in
      let s : seen.store ≤ now = l past in
      omega arith);
}
  where
    draws_mem : (d : Result ℕ DrawFault) → AreAhead seen (after_all r (draw_steps DrawMem d)).points
    draws_mem (Ok n) = h
    draws_mem (Err e) = h

    draws_store : (d : Result ℕ DrawFault) → AreAhead seen (after_all r (draw_steps DrawStore d)).points
    draws_store (Ok n) = h
    draws_store (Err e) = h

pub look_past : LookIsPast
look_past r look a l moves past = ⊎_elim
    (λ (g : Grows r look). g.store)
    (λ (g : Grows look r). let m : look.mem ≤ r.mem = g.mem in absurd (omega arith))
    moves

err_ok : {e : Recycled} {s : Selected} → ◌≡◌ {A = Result Selected Recycled} (Err e) (Ok s) → ⊥
err_ok e = cc

-- what was selected is what the rule picks, for an anchor that is not before the oldest live one
picked : (r : Regs) (a now : ℕ) (s : Selected) → selected r a now ≡ Ok s → (pick r.points a now ≡ s) × ((oldest_of r).a ≤ a)
picked r a now s e = ⊎_elim
    (λ (l : a < (oldest_of r).a). absurd (err_ok (rw (lt-ltb a (oldest_of r).a l) at e)))
    (λ (l : (oldest_of r).a ≤ a). (ok_is (pick r.points a now) s (rw (le-ltb a (oldest_of r).a l) at e), l))
    (cases_lt a (oldest_of r).a)

pub fresh : SelectionIsFresh
fresh seen r a now s h l m e = subst (λ (x : Selected). seen.store ≤ x.b) (picked r a now s e).0 (of_points r.points h)
  where
    past : (qs : List Point) (q : Point) → AreAhead seen qs → first_past a qs ≡ Some q → seen.store ≤ before_b q
    past [] q h e = absurd (clash e)
      where
        clash : None ≡ Some q → ⊥
        clash e = cc
    past (p ∷ qs) q h e = ⊎_elim
        (λ (g : a < p.a).
        let f : Some p ≡ Some q = rw (lt-ltb a p.a g) at e in
        let same : p ≡ q = cc in
        subst (λ x. seen.store ≤ before_b x) same (h.0 (omega arith)))
        (λ (g : p.a ≤ a). past qs q h.1 (rw (le-ltb a p.a g) at e))
        (cases_lt a p.a)

    by_first : (p : Point) (qs : List Point) (o : Option Point) → first_past a (p ∷ qs) ≡ o → AreAhead seen (p ∷ qs) → seen.store ≤ (chosen o (last_from p qs) a now).b
    by_first p qs None e h = omega arith
    by_first p qs (Some q) e h = past (p ∷ qs) q h e

    of_points : (points : List Point) → AreAhead seen points → seen.store ≤ (pick points a now).b
    of_points [] h = m
    of_points (p ∷ qs) h = by_first p qs (first_past a (p ∷ qs)) refl h

-- a point after another goes on from its number at least
goes_on : (p q : Point) → CanFollow p q → p.b ≤ before_b q
goes_on p q f = cond_both q.commit (q.b - 1) q.b (λ x. p.b ≤ x) (λ e. let l : p.b < q.b = f.b_rises e in omega arith) (λ e. f.b_stays)

behind : (p : Point) (qs : List Point) (a now : ℕ) → Climbs p qs → p.b ≤ (chosen (first_past a qs) (last_from p qs) a now).b
behind p [] a now h = omega arith
behind p (q ∷ qs) a now h = ⊎_elim
    (λ (l : a < q.a). rw (lt-ltb a q.a l) (goes_on p q h.0))
    (λ (l : q.a ≤ a). rw (le-ltb a q.a l) (let ih : q.b ≤ (chosen (first_past a qs) (last_from q qs) a now).b = behind q qs a now h.1 in let s : p.b ≤ q.b = h.0.b_stays in omega arith))
    (cases_lt a q.a)

-- what is picked is at least the number of each point that is not past the anchor
picked_past : (n : ℕ) (points : List Point) (a now : ℕ) → Ascends points → n < length points → (first_of (drop n points)).a ≤ a → (first_of (drop n points)).b ≤ (pick points a now).b
picked_past n [] a now h m l = absurd (omega arith)
picked_past zero (p ∷ qs) a now h m l = rw (le-ltb a p.a l) (behind p qs a now h)
picked_past (suc n) (p ∷ []) a now h m l = absurd (omega arith)
picked_past (suc n) (p ∷ q ∷ qs) a now h m l =
    let far : p.a ≤ (get_or (q ∷ qs) n no_point).a = (climbs_both p (q ∷ qs) h (suc n) no_point (omega arith)).0 in
    let le : (get_or (q ∷ qs) n no_point).a ≤ a = subst (λ (z : Point). z.a ≤ a) (first_dropped n (q ∷ qs)) l in
    rw (le-ltb a p.a (omega arith)) (picked_past n (q ∷ qs) a now h.1 (omega arith) l)

pub live : SelectionIsLive
live r a now s h e =
    let p : (pick r.points a now ≡ s) × ((oldest_of r).a ≤ a) = picked r a now s e in
    subst (λ (x : Selected). (oldest_of r).b ≤ x.b) p.0 (picked_past (r.low * r.size) r.points a now (stairs_ascend r.points h.stairs) h.live p.1)
