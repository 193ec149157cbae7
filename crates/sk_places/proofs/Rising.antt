-- Where the numbers of an engine rise along the list, those of its marks do.
use Rattle.std.specs.Prelude.{ℕ, zero, suc, List, [], ◌∷◌, Option, Some, None, ◌≡◌, ◌<◌, ◌≤◌, ◌+◌, length, get_or, is_some}
use Rattle.std.proofs.Common.{refl, arith}
use Rattle.std.specs.List.{filter}
use Rattle.std.specs.List.Sorted.{IsNonDecreasingBy}
use Rattle.sk_model.specs.declared.commit.Commit.{Commit}
use Rattle.sk_model.specs.declared.engine.EngineName.{EngineName}
use Rattle.sk_model.specs.Numbers.{Rises}
use Rattle.sk_model.specs.Records.{InTurn}
use Rattle.sk_places.specs.declared.marks.Mark.{Mark}
use Rattle.sk_places.specs.Marks.{number_by, marked, marks}

-- the numbers of these marks rise strictly from low on
abbrev Climb : ℕ → List Mark → Type 0
Climb low [] = Unit {0}
Climb low (m ∷ ms) = (low < m.n) × Climb m.n ms

marks_climb : (name : EngineName) (low before : ℕ) (cs : List Commit) → Rises (number_by name) low (filter (λ c. is_some (number_by name c)) cs) → Climb low (marks name before cs)
marks_climb name low before [] h = tt
marks_climb name low before (c ∷ cs) h = at (λ n rest. marks_climb name n (before + 1) cs rest) (number_by name c) refl
  where
    at : ((n : ℕ) → Rises (number_by name) n (filter (λ c. is_some (number_by name c)) cs) → Climb n (marks name (before + 1) cs))
        → (o : Option ℕ) → number_by name c ≡ o → Climb low (marked o (before + 1) (marks name (before + 1) cs))
    at later None e = let rest : Rises (number_by name) low (filter (λ c. is_some (number_by name c)) cs) = rw e at h in later low rest
    at later (Some n) e =
        let up : (k : ℕ) × (number_by name c ≡ Some k) × (low < k) × Rises (number_by name) k (filter (λ c. is_some (number_by name c)) cs) = rw e at h in
        let same : up.0 ≡ n = cc (e, up.1) in
        let rest : Rises (number_by name) n (filter (λ c. is_some (number_by name c)) cs) = rw same at up.3 in
        (omega (arith, up.2), later n rest)

climb_from : (low : ℕ) (ms : List Mark) → Climb low ms → (j : ℕ) (d : Mark) → j < length ms → low ≤ (get_or ms j d).n
climb_from low [] h j d l = absurd (omega arith)
climb_from low (m ∷ ms) h zero d l = omega arith
climb_from low (m ∷ ms) h (suc j) d l =
    let rest : m.n ≤ (get_or ms j d).n = climb_from m.n ms h.1 j d (omega arith) in
    omega arith

climb_along : (low : ℕ) (ms : List Mark) → Climb low ms → IsNonDecreasingBy (λ (m : Mark). m.n) ms
climb_along low [] h i j d le l = absurd (omega arith)
climb_along low (m ∷ ms) h zero zero d le l = omega arith
climb_along low (m ∷ ms) h zero (suc j) d le l = climb_from m.n ms h.1 j d (omega arith)
climb_along low (m ∷ ms) h (suc i) zero d le l = absurd (omega arith)
climb_along low (m ∷ ms) h (suc i) (suc j) d le l = climb_along m.n ms h.1 i j d (omega arith) (omega arith)

pub marks_rise : (name : EngineName) (order : List Commit) → InTurn (number_by name) order → IsNonDecreasingBy (λ (m : Mark). m.n) (marks name 0 order)
marks_rise name order h = climb_along 0 (marks name 0 order) (marks_climb name 0 0 order h)
