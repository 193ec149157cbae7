-- For callers: a pass after a call, and the two passes of a book that was split once.
use Rattle.std.proofs.Common.{◌≡◌, ℕ, zero, suc, ◌+◌, ◌<◌, List, [], ◌∷◌, refl, sym, ap, ◌∙◌, ⊎_elim, arith}
use mathlib.Core.Option.{some, some-injective, some-ne-none}
use lib.ListN.{get_elem?}
use Rattle.sk_booked.specs.declared.view.Own.{Own}
use Rattle.sk_booked.specs.declared.view.View.{View}
use Rattle.sk_booked.specs.Paths.{Path}
use Rattle.sk_booked.specs.Plays.{elder, younger}
use Rattle.sk_booked.specs.Answers.{beginner, IsSamePass, Answered, HasPath, IsEvery}

pub same_then : {V E : Type 0} (u v w : View V E) → IsSamePass u v → IsSamePass v w → IsSamePass u w
same_then u v w a b = record { path = b.path ∙ a.path; splits = b.splits ∙ a.splits }

pub answered_same : {V C R : Type 0} (journal : V → List (C × R)) (gives : V → C → R → V → Type 0) (enters leaves : C → R → Type 0) (v : View V (C × R)) (call : C) (reply : R) (w : View V (C × R))
    → Answered journal gives enters leaves v call reply w → IsSamePass v w
answered_same journal gives enters leaves v call reply w a = ⊎_elim
    (λ t. record { path = ap (λ (x : View _ _). x.own.path) t.0; splits = ap (λ (x : View _ _). x.own.splits) t.0 })
    (λ t. record { path = ap (λ (x : View _ _). x.own.path) t.0; splits = ap (λ (x : View _ _). x.own.splits) t.0 })
    a.tells

module _ {E : Type 0} (o u : Own E) (first : o.path ≡ []) (once : o.splits ≡ 1) (second : u.path ≡ 0 ∷ []) (never : u.splits ≡ 0) where
  nothing : (i : ℕ) (x : Own E) → get_elem? [] i ≡ some x → ⊥
  nothing i x e = some-ne-none x (sym e)

  child : (i : ℕ) (x : Own E) → get_elem? (o ∷ u ∷ []) i ≡ some x → (k : ℕ) → k < x.splits → HasPath (k ∷ x.path) (o ∷ u ∷ [])
  child zero x e k l =
      let is : x ≡ o = sym (some-injective o x e) in
      let none : k ≡ 0 = (let n : x.splits ≡ 1 = ap (λ (y : Own E). y.splits) is ∙ once in omega arith) in
      (1, u, refl, second ∙ (λ i. sym none i ∷ (sym first ∙ ap (λ (y : Own E). y.path) (sym is)) i))
  child (suc zero) x e k l =
      let is : x ≡ u = sym (some-injective u x e) in
      absurd (let n : x.splits ≡ 0 = ap (λ (y : Own E). y.splits) is ∙ never in omega arith)
  child (suc (suc i)) x e k l = absurd (nothing i x e)

  apart : (x y : Own E) → o ≡ x → u ≡ y → x.path ≡ y.path → ⊥
  apart x y ox uy e =
      let path : [] ≡ 0 ∷ [] = sym first ∙ (ap (λ (z : Own E). z.path) ox ∙ (e ∙ (ap (λ (z : Own E). z.path) (sym uy) ∙ second))) in
      cc

  unlike : (i j : ℕ) (x y : Own E) → get_elem? (o ∷ u ∷ []) i ≡ some x → get_elem? (o ∷ u ∷ []) j ≡ some y → x.path ≡ y.path → i ≡ j
  unlike zero zero x y a b e = refl
  unlike (suc zero) (suc zero) x y a b e = refl
  unlike zero (suc zero) x y a b e = absurd (apart x y (some-injective o x a) (some-injective u y b) e)
  unlike (suc zero) zero x y a b e = absurd (apart y x (some-injective o y b) (some-injective u x a) (sym e))
  unlike (suc (suc i)) j x y a b e = absurd (nothing i x a)
  unlike zero (suc (suc j)) x y a b e = absurd (nothing j y b)
  unlike (suc zero) (suc (suc j)) x y a b e = absurd (nothing j y b)

  pub two_are_every : IsEvery (o ∷ u ∷ [])
  two_are_every = record { first = (0, o, refl, first); others = child; once = unlike }

-- The passes of a book that was split once, whatever calls they made since
pub both_are_every : {V E : Type 0} (base : List E) (v one two w x : View V E) → v ≡ beginner base → one ≡ elder v → two ≡ younger v → IsSamePass one w → IsSamePass two x → IsEvery (w.own ∷ x.own ∷ [])
both_are_every {V} {E} base v one two w x began old new a b =
    let path : View V E → Path = λ u. u.own.path in
    let splits : View V E → ℕ = λ u. u.own.splits in
    two_are_every w.own x.own
    (a.path ∙ (ap path old ∙ ap path began))
    (a.splits ∙ (ap splits old ∙ ap (λ (u : View V E). u.own.splits + 1) began))
    (b.path ∙ (ap path new ∙ ap (λ (u : View V E). u.own.splits ∷ u.own.path) began))
    (b.splits ∙ ap splits new)
