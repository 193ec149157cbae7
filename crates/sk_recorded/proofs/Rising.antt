-- Two lists of commits in the order of their numbers that have the same members are one.
use Rattle.std.specs.Prelude.{ℕ, List, [], ◌∷◌, Some, ◌≡◌, ◌<◌}
use Rattle.std.proofs.Common.{refl, sym, ap, ◌∙◌, ⊎_elim, arith}
use Rattle.sk_rows.specs.declared.table.Table.{Table}
use Rattle.sk_model.specs.declared.engine.EngineName.{EngineName}
use Rattle.sk_model.specs.declared.commit.Commit.{Commit}
use Rattle.sk_model.specs.Numbers.{Rises}
use Rattle.sk_model.specs.Stamped.{number_in}
use Rattle.sk_model.proofs.Lists.{Each}
use Rattle.sk_linked.specs.Traces.{In}
use Rattle.sk_linked.proofs.Members.{each_in, in_each, some_same}
use Rattle.sk_linked.proofs.Commits.{past_in}

module _ (catalog : List Table) (name : EngineName) where
  -- one with a number past the first's is among the others
  among_rest : (n : ℕ) (x c : Commit) (cs : List Commit) → number_in name x ≡ Some n → Rises (number_in name) n cs → In c cs → (xs : List Commit) → In c (x ∷ xs) → In c xs
  among_rest n x c cs e r i xs j = ⊎_elim
      (λ (q : c ≡ x). let l : n < n = past_in catalog name n n c cs r i (ap (number_in name) q ∙ e) in absurd (never l))
      (λ (m : In c xs). m)
      j
    where
      never : n < n → ⊥
      never l = omega arith

  pub same_members : (low high : ℕ) (xs ys : List Commit) → Rises (number_in name) low xs → Rises (number_in name) high ys → Each (λ (c : Commit). In c ys) xs → Each (λ (c : Commit). In c xs) ys → xs ≡ ys
  same_members low high [] [] r s h k = refl
  same_members low high [] (y ∷ ys) r s h k = absurd k.0
  same_members low high (x ∷ xs) [] r s h k = absurd h.0
  same_members low high (x ∷ xs) (y ∷ ys) r s h k = both heads (λ left right. same_members r.0 s.0 xs ys r.3 s.3 left right)
    where
      never : r.0 < s.0 → s.0 < r.0 → ⊥
      never l m = omega arith

      heads : x ≡ y
      heads = ⊎_elim
          (λ (e : x ≡ y). e)
          (λ (i : In x ys). ⊎_elim
          (λ (e : y ≡ x). sym e)
          (λ (j : In y xs). absurd (never (past_in catalog name r.0 s.0 y xs r.3 j s.1) (past_in catalog name s.0 r.0 x ys s.3 i r.1)))
          k.0)
          h.0

      both : x ≡ y → (Each (λ (c : Commit). In c ys) xs → Each (λ (c : Commit). In c xs) ys → xs ≡ ys) → x ∷ xs ≡ y ∷ ys
      both e rest =
          let same : r.0 ≡ s.0 = some_same (sym r.1 ∙ ap (number_in name) e ∙ s.1) in
          let left : Each (λ (c : Commit). In c ys) xs = in_each (λ (c : Commit). In c ys) xs
          (λ c i. among_rest r.0 y c xs (s.1 ∙ ap Some (sym same)) r.3 i ys (each_in (λ (c : Commit). In c (y ∷ ys)) xs c h.1 i)) in
          let right : Each (λ (c : Commit). In c xs) ys = in_each (λ (c : Commit). In c xs) ys
          (λ c i. among_rest s.0 x c ys (r.1 ∙ ap Some same) s.3 i xs (each_in (λ (c : Commit). In c (x ∷ xs)) ys c k.1 i)) in
          ap (λ (c : Commit). c ∷ xs) e ∙ ap (λ cs. y ∷ cs) (rest left right)
