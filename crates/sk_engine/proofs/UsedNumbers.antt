-- Whether a number is used is seen from the end of the numbers.
use Rattle.std.specs.Prelude.{◌≡◌, ℕ, zero, suc, ◌-◌, ◌<◌, ◌≤◌, List, [], ◌∷◌, IfSome, false, ◌==◌, ◌||◌, ◌⊎◌, length, map, drop}
use Rattle.std.specs.List.{list_any, slice_get}
use Rattle.std.proofs.Common.{refl, sym, ap, subst, ◌∙◌, inl, inr, ⊎_elim, arith}
use Rattle.std.proofs.lemmas.Bool.{ne_eqb}
use Rattle.sk_model.specs.Numbers.{Rises}
use Rattle.sk_engine.specs.declared.numbers.Number.{Number}
use Rattle.sk_engine.specs.Counts.{used, number_in}
use Rattle.sk_engine.proofs.Numbering.{some_one}

-- what rising numbers begin past is below whatever one of them is below
begins_below : (n p j : ℕ) (xs : List Number) → Rises number_in p (map used xs) → j < length xs → IfSome (slice_get xs j) (λ (u : Number). u.n < n) → p < n
begins_below n p j [] r l h = absurd (omega (arith, l))
begins_below n p zero (x ∷ xs) r l h =
    let same : x.n ≡ r.0 = some_one x.n r.0 r.1 in
    let below : x.n < n = h in
    let past : p < r.0 = r.2 in
    omega (arith, same, below, past)
begins_below n p (suc j) (x ∷ xs) r l h =
    let later : r.0 < n = begins_below n r.0 j xs r.3 (omega (arith, l)) h in
    let past : p < r.0 = r.2 in
    omega (arith, later, past)

-- where the last of the first numbers is below it, the number is used where one of those behind is it
pub seen_behind : (n at p : ℕ) (xs : List Number) → Rises number_in p (map used xs) → at ≤ length xs → ((j : ℕ) → at ≡ suc j → IfSome (slice_get xs j) (λ (u : Number). u.n < n))
    → list_any (λ (u : Number). u.n == n) (drop at xs) ≡ list_any (λ (u : Number). u.n == n) xs
seen_behind n zero p xs r l h = refl
seen_behind n (suc k) p [] r l h = absurd (omega (arith, l))
seen_behind n (suc k) p (x ∷ xs) r l h =
    let below : x.n < n = here k refl in
    seen_behind n k r.0 xs r.3 (omega (arith, l)) (λ j e. subst (λ i. IfSome (slice_get (x ∷ xs) i) (λ (u : Number). u.n < n)) e (h k refl))
    ∙ ap (λ b. b || list_any (λ (u : Number). u.n == n) xs) (sym (ne_eqb x.n n (λ e. omega (arith, below, e))))
  where
    here : (i : ℕ) → k ≡ i → x.n < n
    here zero e = subst (λ i. IfSome (slice_get (x ∷ xs) i) (λ (u : Number). u.n < n)) e (h k refl)
    here (suc i) e =
        let same : x.n ≡ r.0 = some_one x.n r.0 r.1 in
        let later : r.0 < n = begins_below n r.0 i xs r.3 (omega (arith, l, e)) (subst (λ i. IfSome (slice_get (x ∷ xs) i) (λ (u : Number). u.n < n)) e (h k refl)) in
        omega (arith, same, later)

-- as the count of those below tells
pub last_below : (n at : ℕ) (xs : List Number) → (at ≡ 0) ⊎ IfSome (slice_get xs (at - 1)) (λ (u : Number). u.n < n) → (j : ℕ) → at ≡ suc j → IfSome (slice_get xs j) (λ (u : Number). u.n < n)
last_below n at xs h j e = ⊎_elim
    (λ (none : at ≡ 0). absurd (omega (arith, none, e)))
    (λ (some : IfSome (slice_get xs (at - 1)) (λ (u : Number). u.n < n)). subst (λ i. IfSome (slice_get xs i) (λ (u : Number). u.n < n)) (one e) some)
    h
  where
    one : at ≡ suc j → at - 1 ≡ j
    one e = omega (arith, e)
