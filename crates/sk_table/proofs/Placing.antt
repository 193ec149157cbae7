-- An entry is put where its key belongs.
use Rattle.std.specs.Prelude.{◌≡◌, ℕ, suc, List, [], ◌∷◌, Bool, true, false, cond, slice_get, slice_index_or}
use Rattle.std.proofs.Common.{refl, sym, ap, subst, ◌∙◌}
use Rattle.std.specs.declared.cmp.Ordering.{Ordering}
use Rattle.std.specs.declared.cmp.Ordering.TheVariants.{Less, Equal, Greater}
use Rattle.std.specs.Ordering.{is_gt, is_eq}
use Rattle.std.specs.List.{insert, remove}
use Rattle.std.specs.FinMap.{put}
use Rattle.std.specs.FinMap.Entries.{by_order}
use Rattle.sk_table.specs.Entries.{count_below, is_tied}

false_true : {A : Type 0} → false ≡ true → A
false_true e = absurd (subst (λ (b : Bool). elim b as (λ _. Type 0) [ true ↦ ⊥ | false ↦ Unit {0} ]) e tt)

module _ {K X : Type 0} (R : K → K → Ordering) where
  -- where the key is there, its entry is replaced
  pub tied : (k : K) (v : X) (es : List (K × X)) (x : K × X) → x ≡ slice_index_or es (count_below R k es) x → is_tied R k (slice_get es (count_below R k es)) ≡ true
      → insert (remove es (count_below R k es)) (count_below R k es) (x.0, v) ≡ put R k v es
  tied k v [] x found ties = false_true ties
  tied k v (e ∷ es) x found ties =
      elim (R k e.0) as (λ o. R k e.0 ≡ o → x ≡ slice_index_or (e ∷ es) (cond (is_gt o) (suc (count_below R k es)) 0) x → is_tied R k (slice_get (e ∷ es) (cond (is_gt o) (suc (count_below R k es)) 0)) ≡ true
      → insert (remove (e ∷ es) (cond (is_gt o) (suc (count_below R k es)) 0)) (cond (is_gt o) (suc (count_below R k es)) 0) (x.0, v) ≡ by_order o ((k, v) ∷ e ∷ es) ((e.0, v) ∷ es) (e ∷ put R k v es)) [
        | Less ↦ λ q f h. false_true (sym (ap is_eq q) ∙ h)
        | Equal ↦ λ q f h. ap (λ (y : K × X). (y.0, v) ∷ es) f
        | Greater ↦ λ q f h. ap (λ (fs : List (K × X)). e ∷ fs) (tied k v es x f h)
      ] refl found ties

  -- and else a new one comes in
  pub apart : (k : K) (v : X) (es : List (K × X)) → is_tied R k (slice_get es (count_below R k es)) ≡ false → insert es (count_below R k es) (k, v) ≡ put R k v es
  apart k v [] ties = refl
  apart k v (e ∷ es) ties =
      elim (R k e.0) as (λ o. R k e.0 ≡ o → is_tied R k (slice_get (e ∷ es) (cond (is_gt o) (suc (count_below R k es)) 0)) ≡ false
      → insert (e ∷ es) (cond (is_gt o) (suc (count_below R k es)) 0) (k, v) ≡ by_order o ((k, v) ∷ e ∷ es) ((e.0, v) ∷ es) (e ∷ put R k v es)) [
        | Less ↦ λ q h. refl
        | Equal ↦ λ q h. false_true (sym h ∙ ap is_eq q)
        | Greater ↦ λ q h. ap (λ (fs : List (K × X)). e ∷ fs) (apart k v es h)
      ] refl ties

  -- the same, as it is done: the entry at n is taken out, and comes back with the new value
  pub replaced : (k : K) (v : X) (es : List (K × X)) (x : K × X) (n : ℕ) (rest all : List (K × X)) → n ≡ count_below R k es → x ≡ slice_index_or es n x → is_tied R k (slice_get es n) ≡ true
      → rest ≡ remove es n → all ≡ insert rest n (x.0, v) → all ≡ put R k v es
  replaced k v es x n rest all is found ties without with_it =
      with_it ∙ ap (λ (fs : List (K × X)). insert fs n (x.0, v)) without ∙ ap (λ (m : ℕ). insert (remove es m) m (x.0, v)) is
      ∙ tied k v es x (subst (λ (m : ℕ). x ≡ slice_index_or es m x) is found) (subst (λ (m : ℕ). is_tied R k (slice_get es m) ≡ true) is ties)
