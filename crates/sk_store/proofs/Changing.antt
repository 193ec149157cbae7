-- One cell of a list of pages changes.
use Rattle.std.proofs.Common.{◌≡◌, ℕ, zero, suc, ◌+◌, ◌-◌, ◌≤◌, ◌<◌, Bool, true, false, cond, eqb, ◌==◌, ◌&&◌, ◌⊎◌, inl, inr, List, [], ◌∷◌, ◌++◌, length, get_or, slice_set, IsSome, Option, Some, None, refl, sym, ap, subst, ◌∙◌, arith}
use Rattle.std.proofs.lemmas.Bool.{eqb-true, eqb-false, cases_lt}
use Rattle.std.proofs.lemmas.List.{get_or_past, get_or-set_same, get_or-set_other, get_or-append-add, get_or_append_left}
use Rattle.sk_page.specs.Cells.{bytes_of, cell_at, free, put_at}
use Rattle.std.specs.Option.{is_some}
use Rattle.sk_store.specs.Calls.{IsShorter}
use Rattle.sk_store.specs.Cells.{Cells, Changes, HasCells, cells_of, with_cell}

abbrev pub OnePage : Type 0
OnePage = List (Option (List ℕ))

either : (a b : ℕ) (P : Bool → Type 0) → (a ≡ b → P true) → ((a ≡ b → ⊥) → P false) → P (a == b)
either a b P same apart = from (eqb a b) refl
  where
    from : (t : Bool) → eqb a b ≡ t → P t
    from true e = same (eqb-true a b e)
    from false e = apart (eqb-false a b e)

pub past_end : (pages : List OnePage) (page slot : ℕ) → length pages ≤ page → cells_of pages page slot ≡ None
past_end pages page slot le = ap (λ (cells : OnePage). cell_at cells slot) (get_or_past pages page [] le)

same_at : {X : Type 0} (xs : List X) (i : ℕ) (d e : X) → i < length xs → get_or xs i d ≡ get_or xs i e
same_at [] i d e lt = absurd (omega arith)
same_at (x ∷ xs) zero d e lt = refl
same_at (x ∷ xs) (suc i) d e lt = same_at xs i d e (omega arith)

pub at_page : (pages : List OnePage) (page slot : ℕ) (d : OnePage) → page < length pages → cell_at (get_or pages page d) slot ≡ cells_of pages page slot
at_page pages page slot d lt = ap (λ (cells : OnePage). cell_at cells slot) (same_at pages page d [] lt)

-- ---- one cell of a page

put_same : (cells : OnePage) (k : ℕ) (x : Option (List ℕ)) → k ≤ length cells → cell_at (put_at cells k x) k ≡ x
unfolding put_at
put_same [] zero x h = refl
put_same [] (suc k) x h = absurd (omega arith)
put_same (y ∷ ys) zero x h = refl
put_same (y ∷ ys) (suc k) x h = put_same ys k x (omega arith)

put_other : (cells : OnePage) (k q : ℕ) (x : Option (List ℕ)) → k ≤ length cells → (q ≡ k → ⊥) → cell_at (put_at cells k x) q ≡ cell_at cells q
unfolding put_at
put_other [] zero zero x h e = absurd (e refl)
put_other [] zero (suc q) x h e = refl
put_other [] (suc k) q x h e = absurd (omega arith)
put_other (y ∷ ys) zero zero x h e = absurd (e refl)
put_other (y ∷ ys) zero (suc q) x h e = refl
put_other (y ∷ ys) (suc k) zero x h e = refl
put_other (y ∷ ys) (suc k) (suc q) x h e = put_other ys k q x (omega arith) (λ s. e (omega arith))

pub put_cells : (cells : OnePage) (k : ℕ) (x : Option (List ℕ)) (s : ℕ) → k ≤ length cells → cell_at (put_at cells k x) s ≡ cond (s == k) x (cell_at cells s)
put_cells cells k x s le =
    either s k (λ b. cell_at (put_at cells k x) s ≡ cond b x (cell_at cells s))
    (λ e. ap (cell_at (put_at cells k x)) e ∙ put_same cells k x le)
    (λ e. put_other cells k s x le e)

-- a slot that is in use is one of the page's
pub used_within : (cells : OnePage) (k : ℕ) → IsSome (cell_at cells k) → k ≤ length cells
used_within [] k e = absurd cc
used_within (y ∷ ys) zero e = omega arith
used_within (y ∷ ys) (suc k) e = let le = used_within ys k e in omega arith

-- ---- one page of a list

-- a page has one other cell than the one in its place before
abbrev pub IsChanged : List OnePage → ℕ → ℕ → Option (List ℕ) → OnePage → Type 0
IsChanged pages page slot x new = (s : ℕ) → cell_at new s ≡ cond (s == slot) x (cells_of pages page s)

pub changed_page : (pages : List OnePage) (page slot : ℕ) (x : Option (List ℕ)) (new : OnePage) → page < length pages → IsChanged pages page slot x new → Changes pages (slice_set pages page new) page slot x
changed_page pages page slot x new lt h q s =
    either q page (λ b. cond (b && (s == slot)) x (cells_of pages q s) ≡ cells_of (slice_set pages page new) q s)
    (λ e. ap (λ (p : ℕ). cond (s == slot) x (cells_of pages p s)) e ∙ sym (h s) ∙ ap (λ (cells : OnePage). cell_at cells s) (sym (ap (λ (p : ℕ). get_or (slice_set pages page new) p []) e ∙ get_or-set_same pages page new [] lt)))
    (λ e. ap (λ (cells : OnePage). cell_at cells s) (sym (get_or-set_other pages page q new [] e)))

-- ---- the calls of a page

pub changed_by_put : (pages : List OnePage) (page slot : ℕ) (x : Option (List ℕ)) (old new : OnePage) → page < length pages → old ≡ get_or pages page old → slot ≤ length old → new ≡ put_at old slot x → Changes pages (slice_set pages page new) page slot x
changed_by_put pages page slot x old new lt at le e =
    changed_page pages page slot x new lt
    (λ s. ap (λ (cells : OnePage). cell_at cells s) e ∙ put_cells old slot x s le
    ∙ ap (λ (c : Option (List ℕ)). cond (s == slot) x c) (ap (λ (cells : OnePage). cell_at cells s) at ∙ at_page pages page s old lt))

-- a slot of a page in a list is in use
pub used_at : (pages : List OnePage) (page slot : ℕ) (old : OnePage) → page < length pages → old ≡ get_or pages page old → is_some (cells_of pages page slot) ≡ true → IsSome (cell_at old slot)
used_at pages page slot old lt at used = ap is_some (ap (λ (cells : OnePage). cell_at cells slot) at ∙ at_page pages page slot old lt) ∙ used

-- a page without cells has room for each cell that is small enough
pub fits_new : (cells : OnePage) (n : ℕ) → cells ≡ [] → n ≤ 4084 → free cells < n + 4 → ⊥
unfolding free
fits_new cells n e small full = let z : free cells ≡ 4088 = ap free e in omega arith

pub first_of_new : (cells : OnePage) (k : ℕ) (x : Option (List ℕ)) → cells ≡ [] → put_at cells k x ≡ x ∷ []
unfolding put_at
first_of_new cells k x e = ap (λ (cs : OnePage). put_at cs k x) e

-- ---- what pages have
