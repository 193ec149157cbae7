-- Histories, one step longer.
use Rattle.std.proofs.Common.{◌≡◌, Bool, true, false, List, [], ◌∷◌, ◌++◌, refl, sym, ap, ◌∙◌, append_assoc, eq-eqb, ne_eqb}
use Rattle.std.proofs.lemmas.List.{append-nil}
use mathlib.Core.Logic.{dite}
use native.Mathlib.Decide.{ℕ_discrete}
use Rattle.sk_clock.specs.declared.view.WordStep.{WordStep}
use Rattle.sk_clock.specs.declared.view.Start.{Start}
use Rattle.sk_clock.specs.declared.view.Entry.{Entry}
use Rattle.sk_clock.specs.Paths.{Path, same_path, Each, Begins}
use Rattle.sk_clock.specs.Steps.{entry, put_if, steps_by}
use Rattle.sk_clock.specs.History.{Cells, after_entry, IsRight, cells_after, IsHistory}

pub same_path-refl : (p : Path) → same_path p p ≡ true
same_path-refl [] = refl
same_path-refl (x ∷ xs) = rw (eq-eqb x x refl) (same_path-refl xs)

pub same_path-true : (p q : Path) → same_path p q ≡ true → p ≡ q
same_path-true [] [] e = refl
same_path-true [] (y ∷ ys) e = cc
same_path-true (x ∷ xs) [] e = cc
same_path-true (x ∷ xs) (y ∷ ys) e = dite (ℕ_discrete x y)
    (λ is. let t : same_path xs ys ≡ true = rw (eq-eqb x y is) at e in let tail = same_path-true xs ys t in λ i. is i ∷ tail i)
    (λ ne. let t : false ≡ true = rw (ne_eqb x y ne) at e in cc)

pub same_path-false : (p q : Path) → ¬ (p ≡ q) → same_path p q ≡ false
same_path-false p q ne = go (same_path p q) refl
  where
    go : (b : Bool) → same_path p q ≡ b → same_path p q ≡ false
    go true e = absurd (ne (same_path-true p q e))
    go false e = e

pub begins-refl : {A : Type 0} (xs : List A) → Begins xs xs
begins-refl xs = ([], append-nil xs)

pub begins-append : {A : Type 0} (xs ys zs : List A) → Begins xs ys → Begins xs (ys ++ zs)
begins-append xs ys zs b = (b.0 ++ zs, sym (append_assoc xs b.0 zs) ∙ ap (λ l. l ++ zs) b.1)

put_if-append : {A : Type 0} (b : Bool) (x : A) (xs ys zs : List A) → xs ≡ ys ++ zs → put_if b x xs ≡ put_if b x ys ++ zs
put_if-append true x xs ys zs e = ap (λ l. x ∷ l) e
put_if-append false x xs ys zs e = e

pub steps_by-append : (p : Path) (xs ys : List Entry) → steps_by p (xs ++ ys) ≡ steps_by p xs ++ steps_by p ys
steps_by-append p [] ys = refl
steps_by-append p (e ∷ es) ys = put_if-append (same_path p e.by) e.step (steps_by p (es ++ ys)) (steps_by p es) (steps_by p ys) (steps_by-append p es ys)

pub steps_by-own : (p : Path) (log : List Entry) (e : WordStep) → steps_by p (log ++ entry p e ∷ []) ≡ steps_by p log ++ e ∷ []
steps_by-own p log e = steps_by-append p log (entry p e ∷ []) ∙ ap (λ b. steps_by p log ++ put_if b e []) (same_path-refl p)

pub steps_by-other : (p q : Path) (log : List Entry) (e : WordStep) → ¬ (p ≡ q) → steps_by p (log ++ entry q e ∷ []) ≡ steps_by p log
steps_by-other p q log e ne = steps_by-append p log (entry q e ∷ []) ∙ (ap (λ b. steps_by p log ++ put_if b e []) (same_path-false p q ne) ∙ append-nil (steps_by p log))

pub cells_after-snoc : (s : Start) (r : Cells) (log : List Entry) (e : Entry) → cells_after s r (log ++ e ∷ []) ≡ after_entry s (cells_after s r log) e
cells_after-snoc s r [] e = refl
cells_after-snoc s r (x ∷ xs) e = cells_after-snoc s (after_entry s r x) xs e

pub history-snoc : (s : Start) (r : Cells) (log : List Entry) (e : Entry) → IsHistory s r log → IsRight (cells_after s r log) e.by e.step → IsHistory s r (log ++ e ∷ [])
history-snoc s r [] e h n = (n, tt)
history-snoc s r (x ∷ xs) e h n = (h.0, history-snoc s (after_entry s r x) xs e h.1 n)

pub cells_after-append : (s : Start) (r : Cells) (xs ys : List Entry) → cells_after s r (xs ++ ys) ≡ cells_after s (cells_after s r xs) ys
cells_after-append s r [] ys = refl
cells_after-append s r (e ∷ es) ys = cells_after-append s (after_entry s r e) es ys

pub history-left : (s : Start) (r : Cells) (xs ys : List Entry) → IsHistory s r (xs ++ ys) → IsHistory s r xs
history-left s r [] ys h = tt
history-left s r (e ∷ es) ys h = (h.0, history-left s (after_entry s r e) es ys h.1)

pub history-right : (s : Start) (r : Cells) (xs ys : List Entry) → IsHistory s r (xs ++ ys) → IsHistory s (cells_after s r xs) ys
history-right s r [] ys h = h
history-right s r (e ∷ es) ys h = history-right s (after_entry s r e) es ys h.1

pub each-snoc : {A : Type 0} (P : A → Type 0) (xs : List A) (x : A) → Each P xs → P x → Each P (xs ++ x ∷ [])
each-snoc P [] x h p = (p, tt)
each-snoc P (y ∷ ys) x h p = (h.0, each-snoc P ys x h.1 p)

pub each-map : {A : Type 0} (P Q : A → Type 0) (xs : List A) → ((x : A) → P x → Q x) → Each P xs → Each Q xs
each-map P Q [] f h = tt
each-map P Q (x ∷ xs) f h = (f x h.0, each-map P Q xs f h.1)
