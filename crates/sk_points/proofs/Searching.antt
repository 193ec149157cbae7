-- How many points are not past two numbers, found by halving.
use Rattle.std.specs.Prelude.{◌≡◌, ℕ, zero, suc, List, [], ◌∷◌, Option, Some, None, true, false, cond, ◌==◌, ◌+◌, ◌-◌, ◌<◌, ◌≤◌, nat_le, length, get_or, drop}
use Rattle.std.proofs.Common.{refl, sym, ap, subst, ◌∙◌, ⊎_elim, arith}
use Rattle.std.specs.List.{prefix_len}
use Rattle.std.proofs.lemmas.Bool.{cases_Bool, and_parts, and_from, leb-true, le-leb, false≢true, lt-leb, lt-ltb, le-ltb, cases_lt, cond-false, ne_eqb}
use Rattle.sk_model.specs.declared.point.Point.{Point}
use Rattle.sk_weave.specs.Points.{Climbs, Ascends, last_from, first_past, chosen, pick}
use Rattle.sk_weave.proofs.Staircase.{climbs_both}
use Rattle.sk_weave.proofs.Registers.{first_dropped}
use Rattle.sk_weave.specs.Registry.{is_within, greatest_within, no_point, first_of, last_of}

within_less : (x y : ℕ) (p q : Point) → p.a ≤ q.a → p.b ≤ q.b → is_within x y q ≡ true → is_within x y p ≡ true
within_less x y p q l m e =
    let parts : (nat_le q.a x ≡ true) × (nat_le q.b y ≡ true) = and_parts (nat_le q.a x) (nat_le q.b y) e in
    let la : q.a ≤ x = leb-true q.a x parts.0 in
    let lb : q.b ≤ y = leb-true q.b y parts.1 in
    and_from (nat_le p.a x) (nat_le p.b y) (le-leb p.a x (omega arith)) (le-leb p.b y (omega arith))

-- a point that is within is in the run from the front
pub run_past : (x y : ℕ) (points : List Point) (k : ℕ) (d : Point) → Ascends points → k < length points → is_within x y (get_or points k d) ≡ true → k < prefix_len (is_within x y) points
run_past x y [] k d h l e = absurd (omega arith)
run_past x y (p ∷ qs) zero d h l e = rw e (omega arith)
run_past x y (p ∷ []) (suc k) d h l e = absurd (omega arith)
run_past x y (p ∷ q ∷ qs) (suc k) d h l e =
    let far : (p.a ≤ (get_or (q ∷ qs) k d).a) × (p.b ≤ (get_or (q ∷ qs) k d).b) = climbs_both p (q ∷ qs) h (suc k) d l in
    let here : is_within x y p ≡ true = within_less x y p (get_or (q ∷ qs) k d) far.0 far.1 e in
    let ih : k < prefix_len (is_within x y) (q ∷ qs) = run_past x y (q ∷ qs) k d h.1 (omega arith) e in
    rw here (omega arith)

-- one that is not ends it
pub run_upto : (x y : ℕ) (points : List Point) (k : ℕ) (d : Point) → k < length points → is_within x y (get_or points k d) ≡ false → prefix_len (is_within x y) points ≤ k
run_upto x y [] k d l e = absurd (omega arith)
run_upto x y (p ∷ qs) zero d l e = rw e (omega arith)
run_upto x y (p ∷ qs) (suc k) d l e = ⊎_elim
    (λ (t : is_within x y p ≡ true). let ih : prefix_len (is_within x y) qs ≤ k = run_upto x y qs k d (omega arith) e in rw t (omega arith))
    (λ (f : is_within x y p ≡ false). rw f (omega arith))
    (cases_Bool (is_within x y p))

pub run_is_short : (x y : ℕ) (points : List Point) → prefix_len (is_within x y) points ≤ length points
run_is_short x y [] = omega arith
run_is_short x y (p ∷ qs) = ⊎_elim
    (λ (t : is_within x y p ≡ true). let ih : prefix_len (is_within x y) qs ≤ length qs = run_is_short x y qs in rw t (omega arith))
    (λ (f : is_within x y p ≡ false). rw f (omega arith))
    (cases_Bool (is_within x y p))

-- points from some place on
pub ascends_on : (n : ℕ) (points : List Point) → Ascends points → Ascends (drop n points)
ascends_on zero points h = h
ascends_on (suc n) [] h = tt
ascends_on (suc n) (p ∷ []) h = ascends_on n [] tt
ascends_on (suc n) (p ∷ q ∷ qs) h = ascends_on n (q ∷ qs) h.1

-- behind a point that is not within no point is
none_within : (x y : ℕ) (best : Option Point) (p : Point) (qs : List Point) → Climbs p qs → is_within x y p ≡ false → greatest_within x y best qs ≡ best
none_within x y best p [] h f = refl
none_within x y best p (q ∷ qs) h f = ⊎_elim
    (λ (t : is_within x y q ≡ true). absurd (false≢true (sym f ∙ within_less x y p q h.0.a_stays h.0.b_stays t)))
    (λ (g : is_within x y q ≡ false). rw g (none_within x y best q qs h.1 g))
    (cases_Bool (is_within x y q))

-- what a search answers that begins with some point, or none
abbrev run_end : ℕ → Option Point → List Point → Point → Option Point
run_end n best points d = cond (n == 0) best (Some (get_or points (n - 1) d))

greatest_run : (x y : ℕ) (best : Option Point) (points : List Point) (d : Point) → Ascends points → greatest_within x y best points ≡ run_end (prefix_len (is_within x y) points) best points d
greatest_run x y best [] d h = refl
greatest_run x y best (p ∷ qs) d h = ⊎_elim
    (λ (t : is_within x y p ≡ true). rw t (greatest_run x y (Some p) qs d (behind p qs h) ∙ further (prefix_len (is_within x y) qs)))
    (λ (f : is_within x y p ≡ false). rw f (none_within x y best p qs h f))
    (cases_Bool (is_within x y p))
  where
    behind : (p : Point) (qs : List Point) → Climbs p qs → Ascends qs
    behind p [] h = tt
    behind p (q ∷ qs) h = h.1

    further : (n : ℕ) → run_end n (Some p) qs d ≡ run_end (1 + n) best (p ∷ qs) d
    further zero = refl
    further (suc n) =
        let zero_not : (suc n == 0) ≡ false = ne_eqb (suc n) 0 (λ e. omega arith) in
        let more_not : ((1 + suc n) == 0) ≡ false = ne_eqb (1 + suc n) 0 (λ e. omega arith) in
        let a : suc n - 1 ≡ n = omega arith in
        let b : (1 + suc n) - 1 ≡ suc n = omega arith in
        cond-false (suc n == 0) (Some p) (Some (get_or qs (suc n - 1) d)) zero_not ∙ ap (λ m. Some (get_or qs m d)) a
        ∙ ap (λ m. Some (get_or (p ∷ qs) m d)) (sym b) ∙ sym (cond-false ((1 + suc n) == 0) best (Some (get_or (p ∷ qs) ((1 + suc n) - 1) d)) more_not)

pub greatest_none : (x y n : ℕ) (points : List Point) → Ascends points → n ≡ prefix_len (is_within x y) points → n ≡ 0 → None ≡ greatest_within x y None points
greatest_none x y n points h is zero_is = sym (greatest_run x y None points no_point h ∙ ap (λ m. run_end m None points no_point) (sym is ∙ zero_is))

pub greatest_some : (x y n : ℕ) (q : Point) (points : List Point) → Ascends points → n ≡ prefix_len (is_within x y) points → (n ≡ 0 → ⊥) → q ≡ get_or points (n - 1) q → Some q ≡ greatest_within x y None points
greatest_some x y n q points h is some e =
    ap Some e ∙ sym (cond-false (n == 0) None (Some (get_or points (n - 1) q)) (ne_eqb n 0 some)) ∙ ap (λ m. run_end m None points q) is ∙ sym (greatest_run x y None points q h)

-- no point's number is past the last's
upto_last : (p : Point) (qs : List Point) → Climbs p qs → p.b ≤ (last_from p qs).b
upto_last p [] h = omega arith
upto_last p (q ∷ qs) h =
    let s : p.b ≤ q.b = h.0.b_stays in
    let l : q.b ≤ (last_from q qs).b = upto_last q qs h.1 in
    omega arith

finds_step : (a y : ℕ) (p : Point) (qs : List Point) (q : Point) → p.b ≤ y → (prefix_len (is_within a y) qs < length qs → q ≡ get_or qs (prefix_len (is_within a y) qs) q → first_past a qs ≡ Some q)
    → prefix_len (is_within a y) (p ∷ qs) < length (p ∷ qs) → q ≡ get_or (p ∷ qs) (prefix_len (is_within a y) (p ∷ qs)) q → first_past a (p ∷ qs) ≡ Some q
finds_step a y p qs q up ih m e = ⊎_elim
    (λ (gt : a < p.a).
    let out : is_within a y p ≡ false = rw (lt-leb p.a a gt) refl in
    rw (lt-ltb a p.a gt) (ap Some (sym (rw out at e))))
    (λ (le : p.a ≤ a).
    let in_ : is_within a y p ≡ true = rw (le-leb p.a a le, le-leb p.b y up) refl in
    let n : ℕ = prefix_len (is_within a y) qs in
    let one : 1 + n ≡ suc n = omega arith in
    let m2 : n < length qs = let k : suc n < suc (length qs) = rw (in_, one) at m in omega arith in
    let e2 : q ≡ get_or qs n q = rw (in_, one) at e in
    rw (le-ltb a p.a le) (ih m2 e2))
    (cases_lt a p.a)

-- the first point past the anchor stands behind the run of those that are not past it
finds_from : (a y : ℕ) (p : Point) (qs : List Point) (q : Point) → Climbs p qs → (last_from p qs).b ≤ y → prefix_len (is_within a y) (p ∷ qs) < length (p ∷ qs) → q ≡ get_or (p ∷ qs) (prefix_len (is_within a y) (p ∷ qs)) q
    → first_past a (p ∷ qs) ≡ Some q
finds_from a y p [] q h l m e = finds_step a y p [] q l (λ m e. absurd (omega arith)) m e
finds_from a y p (r ∷ rs) q h l m e =
    let up : p.b ≤ (last_from r rs).b = upto_last p (r ∷ rs) h in
    finds_step a y p (r ∷ rs) q (omega arith) (λ m e. finds_from a y r rs q h.1 l m e) m e

pub run_finds : (a y : ℕ) (points : List Point) (q : Point) → Ascends points → (last_of points).b ≤ y → prefix_len (is_within a y) points < length points → q ≡ get_or points (prefix_len (is_within a y) points) q → first_past a points ≡ Some q
run_finds a y [] q h l m e = absurd (omega arith)
run_finds a y (p ∷ qs) q h l m e = finds_from a y p qs q h l m e

-- and there is none where all are in the run
pub run_ends : (a y : ℕ) (points : List Point) → length points ≤ prefix_len (is_within a y) points → first_past a points ≡ None
run_ends a y [] m = refl
run_ends a y (p ∷ qs) m = ⊎_elim
    (λ (t : is_within a y p ≡ true).
    let parts : (nat_le p.a a ≡ true) × (nat_le p.b y ≡ true) = and_parts (nat_le p.a a) (nat_le p.b y) t in
    let n : ℕ = prefix_len (is_within a y) qs in
    let k : suc (length qs) ≤ 1 + n = rw t at m in
    rw (le-ltb a p.a (leb-true p.a a parts.0)) (run_ends a y qs (omega arith)))
    (λ (f : is_within a y p ≡ false). let k : suc (length qs) ≤ 0 = rw f at m in absurd (omega arith))
    (cases_Bool (is_within a y p))

-- points before one that is not past the anchor do not matter
pub drop_past : (n : ℕ) (points : List Point) (a : ℕ) → Ascends points → n < length points → (first_of (drop n points)).a ≤ a → first_past a (drop n points) ≡ first_past a points
drop_past zero points a h l m = refl
drop_past (suc n) [] a h l m = absurd (omega arith)
drop_past (suc n) (p ∷ []) a h l m = absurd (omega arith)
drop_past (suc n) (p ∷ q ∷ qs) a h l m =
    let k : n < length (q ∷ qs) = omega arith in
    let far : (p.a ≤ (get_or (q ∷ qs) n no_point).a) × (p.b ≤ (get_or (q ∷ qs) n no_point).b) = climbs_both p (q ∷ qs) h (suc n) no_point (omega arith) in
    let same : first_of (drop n (q ∷ qs)) ≡ get_or (q ∷ qs) n no_point = first_dropped n (q ∷ qs) in
    let le : (get_or (q ∷ qs) n no_point).a ≤ a = subst (λ (z : Point). z.a ≤ a) same m in
    rw (le-ltb a p.a (omega arith)) (drop_past n (q ∷ qs) a h.1 k m)

pub last_dropped : (n : ℕ) (points : List Point) → n < length points → last_of (drop n points) ≡ last_of points
last_dropped zero points l = refl
last_dropped (suc n) [] l = absurd (omega arith)
last_dropped (suc n) (p ∷ []) l = absurd (omega arith)
last_dropped (suc n) (p ∷ q ∷ qs) l = last_dropped n (q ∷ qs) (omega arith)

pub pick_by : (points : List Point) (a now : ℕ) → 0 < length points → pick points a now ≡ chosen (first_past a points) (last_of points) a now
pick_by [] a now l = absurd (omega arith)
pick_by (p ∷ qs) a now l = refl
