-- The greatest live point that is not past two numbers.
use Rattle.std.specs.Prelude.{◌≡◌, ℕ, zero, suc, ◌+◌, ◌-◌, ◌*◌, ◌<◌, ◌≤◌, ◌==◌, ◌&&◌, Bool, true, false, cond, not, nat_le, List, [], ◌∷◌, ◌++◌, length, get_or, Option, Some, None, drop}
use Rattle.std.proofs.Common.{refl, sym, ap, ◌∙◌, subst, arith, ne_eqb, eqb-true, le_refl}
use Rattle.std.proofs.lemmas.List.{get_or-drop, length-drop}
use Rattle.std.proofs.lemmas.Bool.{le-leb, and_parts, and_from}
use Rattle.std.proofs.Math.Bool.{and-false}
use Rattle.sk_model.specs.declared.point.Point.{Point}
use Rattle.sk_weave.specs.declared.event.Event.TheVariants.{Append}
use Rattle.sk_weave.specs.Points.{CanFollow, selection, point_at}
use Rattle.sk_weave.specs.Registry.{Regs, no_point, oldest_of, last_of, live_of, is_full, CanAppend, is_within, makes_cut, greatest_within, cut_found}
use Rattle.sk_weave.proofs.Registers.{cut_follows}
use Rattle.sk_clock.specs.declared.view.WordStep.TheVariants.{Load, Change}
use Rattle.sk_clock.specs.declared.view.Entry.{Entry}
use Rattle.sk_clock.specs.declared.view.Start.{Start}
use Rattle.sk_clock.specs.declared.view.View.{View}
use Rattle.sk_clock.specs.Paths.{Begins}
use Rattle.sk_clock.specs.History.{Cells, first_cells, cells_after, IsHistory}
use Rattle.sk_clock.specs.Kept.{cells, now, Extends, Looks}
use Rattle.sk_clock.specs.Walks.{nth, FindsLast, Appends}
use Rattle.sk_clock.specs.Selections.{FindsGone, FindsBetween, LoadsStore}
use Rattle.sk_clock.specs.Cuts.{CutsAt}
use Rattle.sk_clock.proofs.Histories.{begins-append}
use Rattle.sk_clock.proofs.Makings.{answers, makes, stands, before_legal, looks-none, looks_then, looks_first}
use Rattle.sk_clock.proofs.Ring.{Shaped, Ringed, last_at, ringed}
use Rattle.sk_clock.proofs.Views.{ringed_now}
use Rattle.sk_clock.proofs.Finds.{last_is, ringed_there}
use Rattle.sk_clock.proofs.Choosing.{past_above, oldest_nth, loads_store, loads_from}

-- behind a point that is past the two numbers no point is within them
none_behind : (x y : ℕ) (best : Option Point) (points : List Point) → ((i : ℕ) → i < length points → is_within x y (get_or points i no_point) ≡ false) → greatest_within x y best points ≡ best
none_behind x y best [] h = refl
none_behind x y best (p ∷ qs) h = rw (h 0 (omega arith)) (none_behind x y best qs (λ i l. h (suc i) (omega arith)))

greatest_at : (x y : ℕ) (best : Option Point) (points : List Point) (i : ℕ) → i < length points → is_within x y (get_or points i no_point) ≡ true → ((j : ℕ) → i < j → j < length points → is_within x y (get_or points j no_point) ≡ false)
    → greatest_within x y best points ≡ Some (get_or points i no_point)
greatest_at x y best [] i l t h = absurd (omega arith)
greatest_at x y best (p ∷ qs) zero l t h = rw t (none_behind x y (Some p) qs (λ j m. h (suc j) (omega arith) (omega arith)))
greatest_at x y best (p ∷ qs) (suc i) l t h = greatest_at x y (cond (is_within x y p) (Some p) best) qs i (omega arith) t (λ j m n. h (suc j) (omega arith) (omega arith))

greatest_last : (x y : ℕ) (best : Option Point) (points : List Point) (p : Point) → is_within x y p ≡ true → greatest_within x y best (points ++ p ∷ []) ≡ Some p
greatest_last x y best [] p t = rw t refl
greatest_last x y best (q ∷ qs) p t = greatest_last x y (cond (is_within x y q) (Some q) best) qs p t

greatest_end : (n x y : ℕ) (best : Option Point) (points : List Point) (p : Point) → n ≤ length points → is_within x y p ≡ true → greatest_within x y best (drop n (points ++ p ∷ [])) ≡ Some p
greatest_end zero x y best points p l t = greatest_last x y best points p t
greatest_end (suc n) x y best [] p l t = absurd (omega arith)
greatest_end (suc n) x y best (q ∷ qs) p l t = greatest_end n x y best qs p (omega arith) t

not_made : (r : Regs) (x y store : ℕ) → makes_cut r x y store ≡ false → cut_found r x y store ≡ record { cut = greatest_within x y None (live_of r); made = false }
not_made r x y store e = rw e refl

own_within : (x y : ℕ) → is_within x y (selection x y) ≡ true
own_within x y = and_from (nat_le x x) (nat_le y y) (le-leb x x (le_refl x)) (le-leb y y (le_refl y))

-- where the point can be appended at once
is_made : (r : Regs) (x y store : ℕ) → makes_cut r x y store ≡ true → CanAppend r (selection x y) → r.low * r.size ≤ length r.points → record { cut = Some (selection x y); made = true } ≡ cut_found r x y store
is_made r x y store e can l =
    let free = can.free in
    let room : is_full r ≡ false = ne_eqb (length r.points) ((r.low + r.partitions) * r.size) (λ same. absurd (omega arith)) in
    rw (e, room) (ap (λ (o : Option Point). record { cut = o; made = true }) (sym (greatest_end (r.low * r.size) x y None r.points (selection x y) l (own_within x y))))

module _ (s : Start) (c : Cells) (ring : Ringed s c) where
  abbrev r : Regs
  r = c.regs

  low_at : r.low * r.size ≡ r.low * s.size
  low_at = ap (λ (n : ℕ). r.low * n) ring.size_is

  some_live : r.low * r.size < length r.points
  some_live = let e = low_at in let above = ring.above in omega arith

  last_nth : nth r (length r.points - 1) ≡ last_of r.points
  last_nth = let l = some_live in last_at r.points (length r.points - 1) (omega arith)

  -- where some live point is past the two numbers, no cut is made
  no_cut : (x y store k : ℕ) → k < length r.points → is_within x y (nth r k) ≡ false → makes_cut r x y store ≡ false
  no_cut x y store k l f =
      let n : ℕ = length r.points - 1 in
      let past : is_within x y (last_of r.points) ≡ false = ap (is_within x y) (sym last_nth) ∙ past_above s c ring x y k n (omega arith) (omega arith) f in
      rw past (and-false (store == y))

  live_at : (i : ℕ) → get_or (live_of r) i no_point ≡ nth r (r.low * r.size + i)
  live_at i = get_or-drop (r.low * r.size) r.points i no_point

  many_live : length (live_of r) ≡ length r.points - r.low * r.size
  many_live = length-drop (r.low * r.size) r.points

  pub none_found : (x y store : ℕ) (p : Point) → p ≡ oldest_of r → is_within x y p ≡ false → record { cut = None; made = false } ≡ cut_found r x y store
  none_found x y store p is past =
      let n : ℕ = r.low * r.size in
      let live = some_live in
      let many = many_live in
      let e = low_at in
      let first : is_within x y (nth r n) ≡ false = ap (is_within x y) (ap (nth r) e ∙ (sym (oldest_nth s c ring) ∙ sym is)) ∙ past in
      let all : greatest_within x y None (live_of r) ≡ None = none_behind x y None (live_of r) (λ i l. ap (is_within x y) (live_at i) ∙ past_above s c ring x y n (n + i) (omega arith) (omega arith) first) in
      ap (λ (o : Option Point). record { cut = o; made = false }) (sym all) ∙ sym (not_made r x y store (no_cut x y store n live first))

  greatest_is : (x y k : ℕ) → r.low * s.size ≤ k → k < length r.points → is_within x y (nth r k) ≡ true → ((j : ℕ) → k < j → j < length r.points → is_within x y (nth r j) ≡ false) → greatest_within x y None (live_of r) ≡ Some (nth r k)
  greatest_is x y k from l t h =
      let n : ℕ = r.low * r.size in
      let e = low_at in
      let many = many_live in
      let i : ℕ = k - n in
      let there : n + i ≡ k = omega arith in
      let is : get_or (live_of r) i no_point ≡ nth r k = live_at i ∙ ap (nth r) there in
      greatest_at x y None (live_of r) i (omega arith) (ap (is_within x y) is ∙ t) (λ j m o. ap (is_within x y) (live_at j) ∙ h (n + j) (omega arith) (omega arith)) ∙ ap Some is

  pub between_found : (x y store k : ℕ) (p : Point) → r.low * s.size ≤ k → k + 1 < length r.points → p ≡ nth r k → is_within x y p ≡ true → is_within x y (nth r (k + 1)) ≡ false → record { cut = Some p; made = false } ≡ cut_found r x y store
  between_found x y store k p from l is inside past =
      let g = greatest_is x y k from (omega arith) (ap (is_within x y) (sym is) ∙ inside) (λ j m o. past_above s c ring x y (k + 1) j (omega arith) o past) in
      ap (λ (o : Option Point). record { cut = o; made = false }) (ap Some is ∙ sym g) ∙ sym (not_made r x y store (no_cut x y store (k + 1) l past))

  pub last_found : (x y store : ℕ) (p : Point) → p ≡ last_of r.points → is_within x y p ≡ true → ((store == y) && (is_within x y p && not ((p.a == x) && (p.b == y)))) ≡ false → record { cut = Some p; made = false } ≡ cut_found r x y store
  last_found x y store p is inside none =
      let k : ℕ = length r.points - 1 in
      let live = some_live in
      let e = low_at in
      let at : p ≡ nth r k = is ∙ sym last_nth in
      let g = greatest_is x y k (omega arith) (omega arith) (ap (is_within x y) (sym at) ∙ inside) (λ j m o. absurd (omega arith)) in
      let no : makes_cut r x y store ≡ false = subst (λ (q : Point). ((store == y) && (is_within x y q && not ((q.a == x) && (q.b == y)))) ≡ false) is none in
      ap (λ (o : Option Point). record { cut = o; made = false }) (ap Some at ∙ sym g) ∙ sym (not_made r x y store no)

-- what a cut answers that began when the pass had come to u, and there loaded the S number
module _ (v u y w : View) (shaped : Shaped w.start) (a b store : ℕ) (before : Looks v u) (e : Extends u (Load 1 store) y) where
  to_y : Looks v y
  to_y = looks_then v u y before (looks_first u (Load 1 store) y tt e)

  loads_at : (place : List Entry) → Begins y.seen place → LoadsStore v store place
  loads_at place h = loads_from v u store place before (loads_store u y store e place h)

  pub cuts_gone : (p : Point) → FindsGone y a b p w → CutsAt v a b (record { cut = None; made = false }) w
  unfolding answers
  cuts_gone p f = record {
    store = store;
    at = answers v w w (λ (r : Regs). record { cut = None; made = false } ≡ cut_found r a b store) (looks_then v y w to_y f.looks) (looks-none w) f.all_seen (none_found w.start (cells w w.seen) (ringed_now w shaped f.legal) a b store p f.oldest f.past);
    loads = loads_at w.seen f.looks.seen;
  }

  pub cuts_between : (p q : Point) → FindsBetween y a b p q w → CutsAt v a b (record { cut = Some p; made = false }) w
  unfolding answers
  cuts_between p q f = record {
    store = store;
    at = answers v w w (λ (r : Regs). record { cut = Some p; made = false } ≡ cut_found r a b store) (looks_then v y w to_y f.looks) (looks-none w) f.all_seen
        (between_found w.start (cells w w.seen) (ringed_now w shaped f.legal) a b store f.at p f.live f.there f.p_is f.inside (ap (is_within a b) (sym f.q_is) ∙ f.past));
    loads = loads_at w.seen f.looks.seen;
  }

  module _ (low k word next : ℕ) (f : FindsLast y low k word next w) (p : Point) (is : p ≡ point_at word) where
    here : p ≡ last_of (now f.place).points
    here = is ∙ last_is y w low k word next shaped f

    pub cuts_last : is_within a b p ≡ true → ((store == b) && (is_within a b p && not ((p.a == a) && (p.b == b)))) ≡ false → CutsAt v a b (record { cut = Some p; made = false }) w
    unfolding answers
    cuts_last inside none = record {
      store = store;
      at = answers v f.place w (λ (r : Regs). record { cut = Some p; made = false } ≡ cut_found r a b store) (looks_then v y f.place to_y f.before) f.later f.all_seen
          (last_found f.place.start (cells f.place f.place.seen) (ringed_there y w low k word next shaped f) a b store p here inside none);
      loads = loads_at f.place.seen f.before.seen;
    }

    pub cuts_made : (x : View) → ((store == b) && (is_within a b p && not ((p.a == a) && (p.b == b)))) ≡ true → Appends w k (selection a b) (point_at word) x → CutsAt v a b (record { cut = Some (selection a b); made = true }) x
    unfolding makes
    cuts_made x made h =
        let t = h.extends in
        let place : List Entry = w.seen ++ t.between in
        let q : Point = selection a b in
        let to_w : Looks y w = looks_then y f.place w f.before f.later in
        let legal : IsHistory w.start (first_cells w.start) place = subst (λ (z : Start). IsHistory z (first_cells z) place) t.same.0 (before_legal w (Change (Append q)) x t) in
        let ring : Ringed w.start (cells w place) = ringed w.start shaped place legal in
        let can : CanAppend (cells w place).regs q = subst (λ (z : Start). CanAppend (cells_after z (first_cells z) place).regs q) t.same.0 (stands w (Change (Append q)) x t).0 in
        let yes : makes_cut (cells w place).regs a b store ≡ true = subst (λ (z : Point). ((store == b) && (is_within a b z && not ((z.a == a) && (z.b == b)))) ≡ true) (is ∙ sym h.last_is) made in
        let live = some_live w.start (cells w place) ring in
        record {
          store = store;
          at = makes v w x (λ (r : Regs). record { cut = Some q; made = true } ≡ cut_found r a b store) (Append q) (looks_then v y w to_y to_w) t
              (is_made (cells w place).regs a b store yes can (omega arith));
          loads = loads_at place (begins-append y.seen w.seen t.between to_w.seen);
        }

-- what has to hold of a cut's point
pub cut_goes : (p q : Point) (x y store : ℕ) → p ≡ q → ((store == y) && (is_within x y p && not ((p.a == x) && (p.b == y)))) ≡ true → CanFollow q (selection x y) × (store ≡ y)
cut_goes p q x y store is t =
    let parts : ((store == y) ≡ true) × ((is_within x y p && not ((p.a == x) && (p.b == y))) ≡ true) = and_parts (store == y) (is_within x y p && not ((p.a == x) && (p.b == y))) t in
    (subst (λ (z : Point). CanFollow z (selection x y)) is (cut_follows p x y parts.1), eqb-true store y parts.0)
