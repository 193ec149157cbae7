-- Facts of each element of a list.
use Rattle.std.specs.Prelude.{List, [], ◌∷◌, ◌++◌, Bool, true, false, ◌≡◌, ◌&&◌, map}
use Rattle.std.proofs.Common.{refl, sym, ap, ◌∙◌, ⊎_elim}
use Rattle.std.specs.List.{filter, AllByRecursion}
use Rattle.std.proofs.lemmas.Bool.{cond_both, cases_Bool}
use Rattle.std.proofs.Math.Bool.{and_comm}

abbrev pub Each : {X : Type 0} → (X → Type 0) → List X → Type 0
Each P xs = AllByRecursion P xs

pub each_append : {X : Type 0} (P : X → Type 0) (xs ys : List X) → Each P xs → Each P ys → Each P (xs ++ ys)
each_append P [] ys h k = k
each_append P (x ∷ xs) ys h k = (h.0, each_append P xs ys h.1 k)

pub each_weaker : {X : Type 0} (P Q : X → Type 0) → ((x : X) → P x → Q x) → (xs : List X) → Each P xs → Each Q xs
each_weaker P Q f [] h = tt
each_weaker P Q f (x ∷ xs) h = (f x h.0, each_weaker P Q f xs h.1)

pub each_filter : {X : Type 0} (Q P : X → Type 0) (test : X → Bool) → ((x : X) → test x ≡ true → Q x → P x) → (xs : List X) → Each Q xs → Each P (filter test xs)
each_filter Q P test f [] h = tt
each_filter Q P test f (x ∷ xs) h =
    let rest : Each P (filter test xs) = each_filter Q P test f xs h.1 in
    cond_both (test x) (x ∷ filter test xs) (filter test xs) (λ ys. Each P ys) (λ e. (f x e h.0, rest)) (λ e. rest)

pub each_both : {X : Type 0} (P Q : X → Type 0) (xs : List X) → Each P xs → Each Q xs → Each (λ x. P x × Q x) xs
each_both P Q [] h k = tt
each_both P Q (x ∷ xs) h k = ((h.0, k.0), each_both P Q xs h.1 k.1)

pub each_front : {X : Type 0} (P : X → Type 0) (xs ys : List X) → Each P (xs ++ ys) → Each P xs
each_front P [] ys h = tt
each_front P (x ∷ xs) ys h = (h.0, each_front P xs ys h.1)

pub each_end : {X : Type 0} (P : X → Type 0) (xs ys : List X) → Each P (xs ++ ys) → Each P ys
each_end P [] ys h = h
each_end P (x ∷ xs) ys h = each_end P xs ys h.1

pub each_map : {X Y : Type 0} (P : Y → Type 0) (f : X → Y) (xs : List X) → Each (λ x. P (f x)) xs → Each P (map f xs)
each_map P f [] h = tt
each_map P f (x ∷ xs) h = (h.0, each_map P f xs h.1)

pub filter_twice : {X : Type 0} (p q r : X → Bool) → ((x : X) → (q x && p x) ≡ r x) → (xs : List X) → filter p (filter q xs) ≡ filter r xs
filter_twice p q r e [] = refl
filter_twice p q r e (x ∷ xs) =
    let ih : filter p (filter q xs) ≡ filter r xs = filter_twice p q r e xs in
    ⊎_elim
    (λ (t : q x ≡ true).
    let same : r x ≡ p x = sym (e x) ∙ ap (λ b. b && p x) t in
    rw (t, same) (rw ih refl))
    (λ (f : q x ≡ false).
    let same : r x ≡ false = sym (e x) ∙ ap (λ b. b && p x) f in
    rw (f, same) ih)
    (cases_Bool (q x))

-- two tests may change places
pub filter_swap : {X : Type 0} (p q : X → Bool) (xs : List X) → filter p (filter q xs) ≡ filter q (filter p xs)
filter_swap p q xs = filter_twice p q (λ x. q x && p x) (λ x. refl) xs ∙ sym (filter_twice q p (λ x. q x && p x) (λ x. and_comm (p x) (q x)) xs)

-- what all pass leaves all
pub filter_all : {X : Type 0} (p : X → Bool) (xs : List X) → Each (λ x. p x ≡ true) xs → filter p xs ≡ xs
filter_all p [] h = refl
filter_all p (x ∷ xs) h = rw h.0 (ap (λ ys. x ∷ ys) (filter_all p xs h.1))
