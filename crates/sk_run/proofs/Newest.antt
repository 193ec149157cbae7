-- Where all numbers that were drawn are decided, the cut has both counters as its numbers.
use Rattle.std.specs.Prelude.{◌≡◌, ℕ, zero, suc, ◌*◌, ◌-◌, ◌<◌, ◌≤◌, List, [], ◌∷◌, Option, Some, None, Bool, true, false, cond, not, ◌&&◌, ◌==◌, length, drop}
use Rattle.std.proofs.Common.{refl, sym, ap, subst, ◌∙◌, ⊎_elim, arith}
use Rattle.std.proofs.lemmas.Bool.{cases_Bool, cond-true, false≢true, and_parts, and_from, eqb-true, eq-eqb, le-leb}
use Rattle.std.proofs.lemmas.List.{length-drop}
use Rattle.sk_model.specs.declared.point.Point.{Point}
use Rattle.sk_weave.specs.Points.{selection}
use Rattle.sk_weave.specs.Registry.{Regs, last_of, live_of, after_all, IsSound, append_steps, appended, is_within, makes_cut, greatest_within}
use Rattle.sk_weave.proofs.Registers.{last_pushed, comes_last, cut_follows, points_after_append, appended_sound}
use Rattle.sk_run.specs.Reaching.{DecidedIsReached}

last_dropped : (n : ℕ) (points : List Point) → n < length points → last_of (drop n points) ≡ last_of points
last_dropped zero points l = refl
last_dropped (suc n) [] l = absurd (omega arith)
last_dropped (suc n) (p ∷ []) l = absurd (omega arith)
last_dropped (suc n) (p ∷ q ∷ qs) l = last_dropped n (q ∷ qs) (omega arith)

-- the last of some points is found, where it is not past the two numbers
last_found : (x y : ℕ) (best : Option Point) (points : List Point) → 0 < length points → is_within x y (last_of points) ≡ true → greatest_within x y best points ≡ Some (last_of points)
last_found x y best [] l h = absurd (omega arith)
last_found x y best (p ∷ []) l h = cond-true (is_within x y p) (Some p) best h
last_found x y best (p ∷ q ∷ qs) l h = last_found x y (cond (is_within x y p) (Some p) best) (q ∷ qs) (omega arith) h

newest_found : (r : Regs) (x y : ℕ) → r.low * r.size < length r.points → is_within x y (last_of r.points) ≡ true → greatest_within x y None (live_of r) ≡ Some (last_of r.points)
newest_found r x y live h =
    let same : last_of (live_of r) ≡ last_of r.points = last_dropped (r.low * r.size) r.points live in
    let some : length (live_of r) ≡ length r.points - r.low * r.size = length-drop (r.low * r.size) r.points in
    last_found x y None (live_of r) (omega (arith, some, live)) (subst (λ (q : Point). is_within x y q ≡ true) (sym same) h) ∙ ap (λ (q : Point). Some q) same

within : (x y : ℕ) (q : Point) → q.a ≤ x → q.b ≤ y → is_within x y q ≡ true
within x y q l m = and_from _ _ (le-leb q.a x l) (le-leb q.b y m)

module _ (r : Regs) (s : IsSound r) where
  abbrev last : Point
  last = last_of r.points

  abbrev is_at : Bool
  is_at = (last.a == r.mem) && (last.b == r.store)

  inside : is_within r.mem r.store last ≡ true
  inside = within r.mem r.store last s.a_drawn s.b_drawn

  -- no cut is made where the last point has just these numbers
  not_made : makes_cut r r.mem r.store r.store ≡ false → is_at ≡ true
  not_made e = ⊎_elim
      (λ (t : is_at ≡ true). t)
      (λ (f : is_at ≡ false). absurd (false≢true (sym e ∙ and_from _ _ (eq-eqb r.store r.store refl) (and_from _ _ inside (ap not f)))))
      (cases_Bool is_at)

  made_sound : makes_cut r r.mem r.store r.store ≡ true → IsSound (appended r (selection r.mem r.store))
  made_sound e =
      let parts = and_parts (r.store == r.store) (is_within r.mem r.store last && not is_at) e in
      let some : 0 < length r.points = let l : r.low * r.size < length r.points = s.live in omega (arith, l) in
      appended_sound r (selection r.mem r.store) s (comes_last r.points (selection r.mem r.store) some (cut_follows last r.mem r.store parts.1)) (omega arith) (omega arith)

  made_last : last_of (appended r (selection r.mem r.store)).points ≡ selection r.mem r.store
  made_last = ap last_of (points_after_append r (selection r.mem r.store)) ∙ last_pushed r.points (selection r.mem r.store)

  abbrev Reached : Bool → Type 0
  Reached made = (q : Point) × (greatest_within r.mem r.store None (live_of (after_all r (cond made (append_steps r (selection r.mem r.store)) []))) ≡ Some q) × (q.a ≡ r.mem) × (q.b ≡ r.store)

  reached : (made : Bool) → makes_cut r r.mem r.store r.store ≡ made → Reached made
  reached true e = (
    selection r.mem r.store,
    newest_found (appended r (selection r.mem r.store)) r.mem r.store (made_sound e).live
        (subst (λ (q : Point). is_within r.mem r.store q ≡ true) (sym made_last) (within r.mem r.store (selection r.mem r.store) (omega arith) (omega arith)))
        ∙ ap (λ (q : Point). Some q) made_last,
    refl,
    refl,
  )
  reached false e =
      let parts = and_parts (last.a == r.mem) (last.b == r.store) (not_made e) in
      (last, newest_found r r.mem r.store s.live inside, eqb-true last.a r.mem parts.0, eqb-true last.b r.store parts.1)

pub decided_is_reached : DecidedIsReached
decided_is_reached r s = reached r s (makes_cut r r.mem r.store r.store) refl
