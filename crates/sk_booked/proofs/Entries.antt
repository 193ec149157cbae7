-- Logs, one entry longer, and lists of views where one is changed.
use Rattle.std.proofs.Common.{◌≡◌, ◌≢◌, ℕ, zero, suc, ◌<◌, Bool, true, false, List, [], ◌∷◌, ◌++◌, length, set, refl, sym, ap, ◌∙◌, subst, ⊎_elim, arith, append_assoc, eq-eqb, ne_eqb}
use Rattle.std.proofs.lemmas.List.{append-nil}
use mathlib.Core.List.{map-append}
use mathlib.Core.Logic.{dite}
use mathlib.Core.Option.{some, some-ne-none}
use native.Mathlib.Decide.{ℕ_discrete}
use lib.ListN.{get_elem?}
use Rattle.atomic_table.proofs.Lists.{at_set}
use Rattle.sk_booked.specs.declared.view.Entry.{Entry}
use Rattle.sk_booked.specs.Paths.{Path, same_path, entry, put_if, items_by, items_of, Begins, Each}

pub same_path-refl : (p : Path) → same_path p p ≡ true
same_path-refl [] = refl
same_path-refl (x ∷ xs) = rw (eq-eqb x x refl) (same_path-refl xs)

pub same_path-true : (p q : Path) → same_path p q ≡ true → p ≡ q
same_path-true [] [] e = refl
same_path-true [] (y ∷ ys) e = cc
same_path-true (x ∷ xs) [] e = cc
same_path-true (x ∷ xs) (y ∷ ys) e = dite (ℕ_discrete x y)
    (λ is. let t : same_path xs ys ≡ true = rw (eq-eqb x y is) at e in let tail = same_path-true xs ys t in λ i. is i ∷ tail i)
    (λ ne. let t : false ≡ true = rw (ne_eqb x y ne) at e in cc)

pub same_path-false : (p q : Path) → ¬ (p ≡ q) → same_path p q ≡ false
same_path-false p q ne = go (same_path p q) refl
  where
    go : (b : Bool) → same_path p q ≡ b → same_path p q ≡ false
    go true e = absurd (ne (same_path-true p q e))
    go false e = e

pub begins-refl : {A : Type 0} (xs : List A) → Begins xs xs
begins-refl xs = ([], append-nil xs)

pub begins-append : {A : Type 0} (xs ys zs : List A) → Begins xs ys → Begins xs (ys ++ zs)
begins-append xs ys zs b = (b.0 ++ zs, sym (append_assoc xs b.0 zs) ∙ ap (λ l. l ++ zs) b.1)

pub begins-is : {A : Type 0} (xs ys : List A) → xs ≡ ys → Begins xs ys
begins-is xs ys e = ([], append-nil xs ∙ e)

pub nil_cancel : {A : Type 0} (xs ys : List A) → xs ++ ys ≡ xs → ys ≡ []
nil_cancel {A} [] ys e = e
nil_cancel {A} (x ∷ xs) ys e = nil_cancel xs ys (cc)

pub nil_left : {A : Type 0} (xs ys : List A) → xs ++ ys ≡ [] → xs ≡ []
nil_left [] ys e = refl
nil_left (x ∷ xs) ys e = cc

pub none_of : {A : Type 0} (xs : List A) → length xs ≡ 0 → xs ≡ []
none_of [] e = refl
none_of (x ∷ xs) e = absurd (omega arith)

module _ {E : Type 0} where
  put_if-append : (b : Bool) (x : E) (xs ys zs : List E) → xs ≡ ys ++ zs → put_if b x xs ≡ put_if b x ys ++ zs
  put_if-append true x xs ys zs e = ap (λ l. x ∷ l) e
  put_if-append false x xs ys zs e = e

  pub items_by-append : (p : Path) (xs ys : List (Entry E)) → items_by p (xs ++ ys) ≡ items_by p xs ++ items_by p ys
  items_by-append p [] ys = refl
  items_by-append p (e ∷ es) ys = put_if-append (same_path p e.by) e.item (items_by p (es ++ ys)) (items_by p es) (items_by p ys) (items_by-append p es ys)

  pub items_by-own : (p : Path) (log : List (Entry E)) (x : E) → items_by p (log ++ entry p x ∷ []) ≡ items_by p log ++ x ∷ []
  items_by-own p log x = items_by-append p log (entry p x ∷ []) ∙ ap (λ b. items_by p log ++ put_if b x []) (same_path-refl p)

  pub items_by-other : (p q : Path) (log : List (Entry E)) (x : E) → ¬ (p ≡ q) → items_by p (log ++ entry q x ∷ []) ≡ items_by p log
  items_by-other p q log x ne = items_by-append p log (entry q x ∷ []) ∙ (ap (λ b. items_by p log ++ put_if b x []) (same_path-false p q ne) ∙ append-nil (items_by p log))

  -- all entries of a pass stand in the beginning that has as many: none of them is in the rest
  pub no_others : (p : Path) (seen rest log : List (Entry E)) → seen ++ rest ≡ log → items_by p log ≡ items_by p seen → items_by p rest ≡ []
  no_others p seen rest log is all = nil_cancel (items_by p seen) (items_by p rest) (sym (items_by-append p seen rest) ∙ (ap (items_by p) is ∙ all))

  pub items_of-snoc : (base : List E) (log : List (Entry E)) (p : Path) (x : E) → base ++ items_of (log ++ entry p x ∷ []) ≡ (base ++ items_of log) ++ x ∷ []
  items_of-snoc base log p x = ap (λ (l : List E). base ++ l) (map-append (λ (e : Entry E). e.item) log (entry p x ∷ [])) ∙ sym (append_assoc base (items_of log) (x ∷ []))

pub each-snoc : {A : Type 0} (P : A → Type 0) (xs : List A) (x : A) → Each P xs → P x → Each P (xs ++ x ∷ [])
each-snoc P [] x h p = (p, tt)
each-snoc P (y ∷ ys) x h p = (h.0, each-snoc P ys x h.1 p)

pub each-map : {A : Type 0} (P Q : A → Type 0) (xs : List A) → ((x : A) → P x → Q x) → Each P xs → Each Q xs
each-map P Q [] f h = tt
each-map P Q (x ∷ xs) f h = (f x h.0, each-map P Q xs f h.1)

pub each-none : {A : Type 0} (P : A → Type 0) (xs : List A) → xs ≡ [] → Each P xs
each-none P xs e = subst (Each P) (sym e) tt

-- of a list in which one is changed: what holds of the new one, and of the others
pub each_set : {A : Type 0} (P : ℕ → A → Type 0) (xs : List A) (i : ℕ) (x : A) → P i x → ((j : ℕ) (y : A) → j ≢ i → get_elem? xs j ≡ some y → P j y)
    → (j : ℕ) (y : A) → get_elem? (set xs i x) j ≡ some y → P j y
each_set P xs i x here others j y at = ⊎_elim
    (λ (t : (j ≡ i) × (x ≡ y)). subst (λ (z : ℕ × _). P z.0 z.1) (λ k. (sym t.0 k, t.1 k)) here)
    (λ (t : (j ≢ i) × (get_elem? xs j ≡ some y)). others j y t.0 t.1)
    (at_set xs i j x y at)

pub at_below : {A : Type 0} (l : List A) (j : ℕ) (a : A) → get_elem? l j ≡ some a → j < length l
at_below [] j a e = absurd (some-ne-none a (sym e))
at_below (x ∷ xs) zero a e = omega arith
at_below (x ∷ xs) (suc j) a e = let h = at_below xs j a e in omega arith
