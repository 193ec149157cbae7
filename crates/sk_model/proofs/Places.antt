-- A place goes on with one more commit, and stands at the start or right behind a commit that is wanted.
use Rattle.std.specs.Prelude.{ℕ, suc, List, [], ◌∷◌, ◌++◌, Option, Bool, true, false, cond, ◌||◌, ◌≡◌, ◌<◌, ◌+◌, ◌⊎◌, length, get_or, take}
use Rattle.std.proofs.Common.{refl, sym, ap, subst, ◌∙◌, inl, inr, ⊎_elim, arith}
use Rattle.std.specs.List.{list_any}
use Rattle.std.proofs.lemmas.Bool.{cases_Bool, cond-true, cond-false, or_left, or_right, or_from}
use Rattle.std.proofs.lemmas.List.{append_assoc, take_more, take_at, length-take-le}
use Rattle.std.proofs.lemmas.List.Folds.{list_any-append}
use Rattle.std.proofs.Math.Bool.{or-false}
use Rattle.sk_model.specs.declared.commit.Commit.{Commit}
use Rattle.sk_model.specs.Places.{is_wanted, place}
use Rattle.sk_model.proofs.Lists.{Each}

pub place_push : (cs : List Commit) (c : Commit) (m s : Option ℕ) → place (cs ++ c ∷ []) m s ≡ cond (is_wanted m s c) (length cs + 1) (place cs m s)
place_push [] c m s = ⊎_elim (λ (t : is_wanted m s c ≡ true). rw t refl) (λ (f : is_wanted m s c ≡ false). rw f refl) (cases_Bool (is_wanted m s c))
place_push (d ∷ cs) c m s =
    let ih : place (cs ++ c ∷ []) m s ≡ cond (is_wanted m s c) (length cs + 1) (place cs m s) = place_push cs c m s in
    ⊎_elim
    (λ (t : is_wanted m s c ≡ true).
    let any : list_any (is_wanted m s) (d ∷ cs ++ c ∷ []) ≡ true = list_any-append (is_wanted m s) (d ∷ cs) (c ∷ []) ∙ or_right _ _ (or_left _ _ t) in
    let last : place (cs ++ c ∷ []) m s ≡ length cs + 1 = rw t at ih in
    rw (any, t, last) (omega arith))
    (λ (f : is_wanted m s c ≡ false).
    let last : place (cs ++ c ∷ []) m s ≡ place cs m s = rw f at ih in
    let any : list_any (is_wanted m s) (d ∷ cs ++ c ∷ []) ≡ list_any (is_wanted m s) (d ∷ cs) = list_any-append (is_wanted m s) (d ∷ cs) (c ∷ []) ∙ ap (λ b. list_any (is_wanted m s) (d ∷ cs) || b) (or_from (is_wanted m s c) false f refl) ∙ or-false (list_any (is_wanted m s) (d ∷ cs)) in
    rw (any, f, last) refl)
    (cases_Bool (is_wanted m s c))

pub place_more : (cs : List Commit) (i : ℕ) (d : Commit) (m s : Option ℕ) → i < length cs → place (take (i + 1) cs) m s ≡ cond (is_wanted m s (get_or cs i d)) (i + 1) (place (take i cs) m s)
place_more cs i d m s l =
    let n : length (take i cs) ≡ i = length-take-le i cs (omega arith) in
    rw (take_more cs i d l) (place_push (take i cs) (get_or cs i d) m s ∙ ap (λ k. cond (is_wanted m s (get_or cs i d)) (k + 1) (place (take i cs) m s)) n)

-- where the place of a list is: at its start, where no commit is wanted, or right behind the last wanted one
pub record Ends (m s : Option ℕ) (cs : List Commit) : Type 0 where
  pub held : List Commit
  pub rest : List Commit
  pub is : cs ≡ held ++ rest
  pub none : Each (λ (c : Commit). is_wanted m s c ≡ false) rest
  pub last : (held ≡ []) ⊎ ((front : List Commit) × (c : Commit) × (held ≡ front ++ c ∷ []) × (is_wanted m s c ≡ true))
  pub place_is : place cs m s ≡ length held

none_any : (m s : Option ℕ) (cs : List Commit) → Each (λ (c : Commit). is_wanted m s c ≡ false) cs → list_any (is_wanted m s) cs ≡ false
none_any m s [] h = refl
none_any m s (c ∷ cs) h = or_from _ _ h.0 (none_any m s cs h.1)

pub ends : (m s : Option ℕ) (cs : List Commit) → Ends m s cs
ends m s [] = record { held = []; rest = []; is = refl; none = tt; last = inl refl; place_is = refl }
ends m s (c ∷ cs) = next (ends m s cs)
  where
    next : Ends m s cs → Ends m s (c ∷ cs)
    next e = ⊎_elim
        (λ (empty : e.held ≡ []).
        let all : cs ≡ e.rest = rw empty at e.is in
        let none : Each (λ (c : Commit). is_wanted m s c ≡ false) cs = subst (λ xs. Each (λ (c : Commit). is_wanted m s c ≡ false) xs) (sym all) e.none in
        let zero : place cs m s ≡ 0 = e.place_is ∙ ap length empty in
        ⊎_elim
        (λ (t : is_wanted m s c ≡ true). record {
          held = c ∷ [];
          rest = cs;
          is = refl;
          none = none;
          last = inr ([], c, refl, t);
          place_is = cond-true (list_any (is_wanted m s) (c ∷ cs)) (place cs m s + 1) 0 (or_left _ _ t) ∙ ap (λ k. k + 1) zero;
        })
        (λ (f : is_wanted m s c ≡ false). record {
          held = [];
          rest = c ∷ cs;
          is = refl;
          none = (f, none);
          last = inl refl;
          place_is = cond-false (list_any (is_wanted m s) (c ∷ cs)) (place cs m s + 1) 0 (or_from _ _ f (none_any m s cs none));
        })
        (cases_Bool (is_wanted m s c)))
        (λ (found : (front : List Commit) × (d : Commit) × (e.held ≡ front ++ d ∷ []) × (is_wanted m s d ≡ true)). record {
          held = c ∷ e.held;
          rest = e.rest;
          is = ap (λ xs. c ∷ xs) e.is;
          none = e.none;
          last = inr (c ∷ found.0, found.1, ap (λ xs. c ∷ xs) found.2, found.3);
          place_is = cond-true (list_any (is_wanted m s) (c ∷ cs)) (place cs m s + 1) 0
              (or_right _ _ (subst (λ xs. list_any (is_wanted m s) xs ≡ true) (sym (e.is ∙ ap (λ xs. xs ++ e.rest) found.2 ∙ append_assoc found.0 (found.1 ∷ []) e.rest)) (any_at found.0 found.1 e.rest found.3)))
              ∙ ap (λ k. k + 1) e.place_is ∙ one_more (length e.held);
        })
        e.last
      where
        one_more : (n : ℕ) → n + 1 ≡ suc n
        one_more n = omega arith

        any_at : (xs : List Commit) (d : Commit) (ys : List Commit) → is_wanted m s d ≡ true → list_any (is_wanted m s) (xs ++ d ∷ ys) ≡ true
        any_at [] d ys t = or_left _ _ t
        any_at (x ∷ xs) d ys t = or_right _ _ (any_at xs d ys t)

pub ends_prefix : (m s : Option ℕ) (cs : List Commit) (e : Ends m s cs) → take (place cs m s) cs ≡ e.held
ends_prefix m s cs e = ap (λ n. take n cs) e.place_is ∙ ap (λ xs. take (length e.held) xs) e.is ∙ take_at e.held e.rest (length e.held) refl
