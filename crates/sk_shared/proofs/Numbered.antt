-- Points from a number on.
use Rattle.std.specs.Prelude.{◌≡◌, ℕ, suc, ◌-◌, ◌<◌, ◌≤◌, List, [], ◌∷◌, ◌++◌, Bool, true, false, cond, nat_lt, length, take, drop}
use Rattle.std.proofs.Common.{refl, sym, ap, subst, ◌∙◌, arith}
use Rattle.std.proofs.Math.ListN.{get_or}
use Rattle.std.proofs.Math.Seq.{drop-append_seam}
use Rattle.std.proofs.lemmas.Bool.{cond-true, cond-false, lt-ltb, ltb-true, le-ltb}
use Rattle.std.proofs.lemmas.List.{take_rest}
use Rattle.sk_model.specs.declared.engine.EngineName.{EngineName}
use Rattle.sk_model.specs.declared.engine.EngineName.TheVariants.{Mem}
use Rattle.sk_model.specs.declared.point.Point.{Point}
use Rattle.sk_model.proofs.Lists.{Each}
use Rattle.sk_weave.specs.Points.{Climbs, Staircase}
use Rattle.sk_linked.specs.Reads.{number_at}
use Rattle.sk_recorded.specs.Joined.{from_number}

-- from 0 on are all
pub from_zero : (name : EngineName) (points : List Point) → points ≡ from_number name 0 points
from_zero name [] = refl
from_zero name (q ∷ qs) = sym (cond-false (nat_lt (number_at name q) 0) (from_number name 0 qs) (q ∷ qs) (le-ltb (number_at name q) 0 (omega arith)))

-- those from a greater number on are among those from a smaller one on
pub from_later : (name : EngineName) (m n : ℕ) → m ≤ n → (points : List Point) → from_number name n (from_number name m points) ≡ from_number name n points
from_later name m n le [] = refl
from_later name m n le (q ∷ qs) = by (nat_lt (number_at name q) m) refl (from_later name m n le qs)
  where
    by : (b : Bool) → nat_lt (number_at name q) m ≡ b → from_number name n (from_number name m qs) ≡ from_number name n qs → from_number name n (cond b (from_number name m qs) (q ∷ qs)) ≡ from_number name n (q ∷ qs)
    by true is ih =
        let l : number_at name q < m = ltb-true (number_at name q) m is in
        ih ∙ sym (cond-true (nat_lt (number_at name q) n) (from_number name n qs) (q ∷ qs) (lt-ltb (number_at name q) n (omega (arith, l, le))))
    by false is ih = refl

-- ---- the points behind the last one that is below a number

-- the last one
last_place : (p q : Point) (qs : List Point) (d : Point) → get_or (p ∷ q ∷ qs) (length (p ∷ q ∷ qs) - 1) d ≡ get_or (q ∷ qs) (length (q ∷ qs) - 1) d
last_place p q qs d = let e : length (p ∷ q ∷ qs) - 1 ≡ suc (length (q ∷ qs) - 1) = omega arith in ap (λ i. get_or (p ∷ q ∷ qs) i d) e

-- where the last one is below it, all before are
all_below : (a : ℕ) (p : Point) (front behind : List Point) (d : Point) → Climbs p (front ++ behind) → (get_or (p ∷ front) (length (p ∷ front) - 1) d).a < a → Each (λ (q : Point). q.a < a) (p ∷ front)
all_below a p [] behind d c h = (h, tt)
all_below a p (q ∷ qs) behind d c h =
    let rest : Each (λ (q : Point). q.a < a) (q ∷ qs) = all_below a q qs behind d c.1 (subst (λ (x : Point). x.a < a) (last_place p q qs d) h) in
    let here : p.a ≤ q.a = c.0.a_stays in
    let next : q.a < a = rest.0 in
    (omega (arith, here, next), rest)

-- those that are below it are left out
left_out : (a : ℕ) (front behind : List Point) → Each (λ (q : Point). q.a < a) front → from_number Mem a (front ++ behind) ≡ from_number Mem a behind
left_out a [] behind h = refl
left_out a (q ∷ qs) behind h = cond-true (nat_lt q.a a) (from_number Mem a (qs ++ behind)) (q ∷ qs ++ behind) (lt-ltb q.a a h.0) ∙ left_out a qs behind h.1

-- and those that are not stay
stay_all : (a : ℕ) (behind : List Point) → Each (λ (q : Point). a ≤ q.a) behind → from_number Mem a behind ≡ behind
stay_all a [] h = refl
stay_all a (q ∷ qs) h = cond-false (nat_lt q.a a) (from_number Mem a qs) (q ∷ qs) (le-ltb q.a a h.0)

pub from_behind : (a : ℕ) (all front behind : List Point) (d : Point) → Staircase all → all ≡ front ++ behind → 1 ≤ length front → (get_or front (length front - 1) d).a < a → Each (λ (q : Point). a ≤ q.a) behind
    → take (length all - length front) (drop (length front) all) ≡ from_number Mem a all
from_behind a all [] behind d s is some h k = absurd (omega (arith, some))
from_behind a all (p ∷ front) behind d s is some h k =
    let climbs : Staircase (p ∷ front ++ behind) = subst Staircase is s in
    take_rest all (length (p ∷ front)) ∙ ap (drop (length (p ∷ front))) is ∙ drop-append_seam (p ∷ front) behind
    ∙ sym (ap (from_number Mem a) is ∙ left_out a (p ∷ front) behind (all_below a p front behind d climbs.1 h) ∙ stay_all a behind k)
