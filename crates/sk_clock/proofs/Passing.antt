-- What tests need of passes.
use Rattle.std.proofs.Common.{◌≡◌, ℕ, zero, suc, ◌<◌, ◌≤◌, List, [], ◌∷◌, ◌++◌, refl, sym, ap, ◌∙◌, subst, arith, le_trans}
use Rattle.std.specs.Prelude.{Option}
use mathlib.Core.Option.{some, some-injective, some-ne-none}
use lib.ListN.{get_elem?}
use Rattle.sk_clock.specs.declared.view.Own.{Own}
use Rattle.sk_clock.specs.Paths.{Path}
use Rattle.sk_clock.specs.Closes.{HasPath, IsEvery}
use Rattle.sk_clock.specs.declared.view.WordStep.{WordStep}
use Rattle.sk_clock.specs.declared.view.WordStep.TheVariants.{Load, Change}
use Rattle.sk_weave.specs.declared.event.Event.TheVariants.{DrawMem, DrawStore, Append, Raise}
use Rattle.sk_weave.specs.declared.event.Event.{Event}
use Rattle.sk_weave.specs.Registry.{Regs}
use Rattle.sk_clock.specs.declared.view.View.{View}
use Rattle.sk_clock.specs.Steps.{AnyStep, FindsMem, DrawsMem, DrawsStore, HasDrawn}
use Rattle.sk_clock.specs.Answers.{At, changes}
use Rattle.sk_clock.proofs.Held.{any-map, then-left}

finds_at_least : (a n : ℕ) → a ≤ n → (e : WordStep) → FindsMem n e → FindsMem a e
finds_at_least a n l (Load w m) h = (h.0, le_trans l h.1)
finds_at_least a n l (Change (DrawMem m)) h = le_trans l h
finds_at_least a n l (Change (DrawStore m)) h = absurd h
finds_at_least a n l (Change (Append p)) h = absurd h
finds_at_least a n l (Change (Raise m)) h = absurd h

-- who found a number found each smaller one
pub finds_less : (a n : ℕ) (es : List WordStep) → a ≤ n → AnyStep (FindsMem n) es → AnyStep (FindsMem a) es
finds_less a n es l h = any-map (FindsMem n) (FindsMem a) (finds_at_least a n l) es h

-- drawn numbers stay drawn
pub drawn_stays : (v w : View) (Answer : Regs → Type 0) (e : Option Event) (a b : ℕ) → At v Answer e w → HasDrawn a b v.own.steps → HasDrawn a b w.own.steps
drawn_stays v w Answer e a b h d = subst (HasDrawn a b) (sym (ap (λ (o : Own). o.steps) h.own)) (then-left (DrawsMem a) (DrawsStore b) v.own.steps (h.looks ++ changes e) d)

-- the first pass and its one split
pub two_every : (a b : Own) → a.path ≡ [] → a.splits ≡ 1 → b.path ≡ 0 ∷ [] → b.splits ≡ 0 → IsEvery (a ∷ b ∷ [])
two_every a b pa sa pb sb = record { first = (0, a, refl, pa); others = others; once = once }
  where
    others : (i : ℕ) (o : Own) → get_elem? (a ∷ b ∷ []) i ≡ some o → (k : ℕ) → k < o.splits → HasPath (k ∷ o.path) (a ∷ b ∷ [])
    others zero o at k less = let is : a ≡ o = some-injective a o at in let z : k ≡ 0 = (let s : a.splits ≡ o.splits = ap (λ (u : Own). u.splits) is in omega arith) in
        (1, b, refl, pb ∙ λ i. sym z i ∷ (sym pa ∙ ap (λ (u : Own). u.path) is) i)
    others (suc zero) o at k less = let s : b.splits ≡ o.splits = ap (λ (u : Own). u.splits) (some-injective b o at) in absurd (omega arith)
    others (suc (suc i)) o at k less = absurd (some-ne-none o (sym at))

    once : (i j : ℕ) (o u : Own) → get_elem? (a ∷ b ∷ []) i ≡ some o → get_elem? (a ∷ b ∷ []) j ≡ some u → o.path ≡ u.path → i ≡ j
    once zero zero o u e f same = refl
    once (suc zero) (suc zero) o u e f same = refl
    once zero (suc zero) o u e f same = let zero_path : List ℕ = 0 ∷ [] in let none : List ℕ = [] in let h : none ≡ zero_path = sym pa ∙ (ap (λ (w : Own). w.path) (some-injective a o e) ∙ (same ∙ (ap (λ (w : Own). w.path) (sym (some-injective b u f)) ∙ pb))) in absurd (cc)
    once (suc zero) zero o u e f same = let zero_path : List ℕ = 0 ∷ [] in let none : List ℕ = [] in let h : zero_path ≡ none = sym pb ∙ (ap (λ (w : Own). w.path) (some-injective b o e) ∙ (same ∙ (ap (λ (w : Own). w.path) (sym (some-injective a u f)) ∙ pa))) in absurd (cc)
    once (suc (suc i)) j o u e f same = absurd (some-ne-none o (sym e))
    once zero (suc (suc j)) o u e f same = absurd (some-ne-none u (sym f))
    once (suc zero) (suc (suc j)) o u e f same = absurd (some-ne-none u (sym f))
