-- Of the points at some moment, those from a cut on are enough.
use Rattle.std.specs.Prelude.{ℕ, List, [], ◌∷◌, ◌++◌, Bool, true, false, cond, ◌≡◌, ◌<◌, ◌≤◌, nat_lt}
use Rattle.std.proofs.Common.{refl, ap, subst, ◌∙◌, ⊎_elim, arith}
use Rattle.std.proofs.lemmas.Bool.{ltb-true}
use Rattle.std.proofs.lemmas.List.{append_assoc}
use Rattle.sk_model.specs.declared.engine.EngineName.{EngineName}
use Rattle.sk_model.specs.declared.engine.EngineName.TheVariants.{Mem}
use Rattle.sk_model.specs.declared.point.Point.{Point}
use Rattle.sk_model.proofs.Lists.{Each}
use Rattle.sk_weave.specs.Points.{Climbs, Ascends}
use Rattle.sk_linked.specs.Reads.{number_at}
use Rattle.sk_linked.specs.Traces.{In}
use Rattle.sk_linked.proofs.Members.{in_front}
use Rattle.sk_recorded.specs.Joined.{from_number}
use Rattle.sk_recorded.specs.Entries.{PointsFromAreEnough}
use Rattle.sk_recorded.proofs.Others.{stays}

-- no number falls along points
climbs_to : (name : EngineName) (p : Point) (qs : List Point) (x : Point) → Climbs p qs → In x qs → number_at name p ≤ number_at name x
climbs_to name p [] x c i = absurd i
climbs_to name p (q ∷ qs) x c i = ⊎_elim
    (λ (e : x ≡ q). subst (λ (y : Point). number_at name p ≤ number_at name y) (sym_is e) (stays name p q c.0))
    (λ (k : In x qs). let here : number_at name p ≤ number_at name q = stays name p q c.0 in let more : number_at name q ≤ number_at name x = climbs_to name q qs x c.1 k in omega arith)
    i
  where
    sym_is : {y z : Point} → y ≡ z → z ≡ y
    sym_is e = cc

behind_ascends : (p : Point) (qs : List Point) → Climbs p qs → Ascends qs
behind_ascends p [] c = tt
behind_ascends p (q ∷ qs) c = c.1

-- the points before the first one whose number of the memory engine is not below a
abbrev skipped : ℕ → List Point → List Point
skipped a [] = []
skipped a (q ∷ qs) = cond (nat_lt q.a a) (q ∷ skipped a qs) []

split_from : (a : ℕ) (qs : List Point) → qs ≡ skipped a qs ++ from_number Mem a qs
split_from a [] = refl
split_from a (q ∷ qs) = at (nat_lt q.a a) (split_from a qs)
  where
    at : (b : Bool) → qs ≡ skipped a qs ++ from_number Mem a qs → q ∷ qs ≡ cond b (q ∷ skipped a qs) [] ++ cond b (from_number Mem a qs) (q ∷ qs)
    at true e = ap (λ ps. q ∷ ps) e
    at false e = refl

-- who is not below a is among those behind
stays_in : (a : ℕ) (qs : List Point) (x : Point) → In x qs → a ≤ x.a → In x (from_number Mem a qs)
stays_in a [] x i l = absurd i
stays_in a (q ∷ qs) x i l = at (nat_lt q.a a) refl (λ k. stays_in a qs x k l)
  where
    never : q.a < a → a ≤ q.a → ⊥
    never m n = omega arith

    at : (b : Bool) → nat_lt q.a a ≡ b → (In x qs → In x (from_number Mem a qs)) → In x (cond b (from_number Mem a qs) (q ∷ qs))
    at false e rest = i
    at true e rest = ⊎_elim
        (λ (same : x ≡ q). absurd (never (ltb-true q.a a e) (subst (λ (y : Point). a ≤ y.a) same l)))
        (λ (k : In x qs). rest k)
        i

-- and those before have no number past that of who is not below a
none_past : (name : EngineName) (low : Point) (now later : List Point) → Ascends (now ++ later) → In low now → Each (λ (q : Point). number_at name q ≤ number_at name low) (skipped low.a now)
none_past name low [] later c i = absurd i
none_past name low (q ∷ qs) later c i = at (nat_lt q.a low.a) refl (λ k. none_past name low qs later (behind_ascends q (qs ++ later) c) k)
  where
    never : q.a < q.a → ⊥
    never m = omega arith

    at : (b : Bool) → nat_lt q.a low.a ≡ b → (In low qs → Each (λ (p : Point). number_at name p ≤ number_at name low) (skipped low.a qs)) → Each (λ (p : Point). number_at name p ≤ number_at name low) (cond b (q ∷ skipped low.a qs) [])
    at false e rest = tt
    at true e rest = ⊎_elim
        (λ (same : low ≡ q). absurd (never (subst (λ (y : Point). q.a < y.a) same (ltb-true q.a low.a e))))
        (λ (k : In low qs). (climbs_to name q (qs ++ later) low c (in_front low qs later k), rest k))
        i

pub points_from : PointsFromAreEnough
points_from name now later low high c i k l = record {
  early = skipped low.a now;
  later = later;
  are = ap (λ ps. ps ++ later) (split_from low.a now) ∙ append_assoc (skipped low.a now) (from_number Mem low.a now) later;
  before = none_past name low now later c i;
  reached = high;
  among = stays_in low.a now high k l;
  far = omega arith;
}
