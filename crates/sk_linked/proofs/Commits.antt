-- The commits of one engine, made of the transactions.
use Rattle.std.specs.Prelude.{ℕ, List, [], ◌∷◌, Option, Some, None, Bool, true, false, ◌==◌, ◌≡◌, ◌<◌, ◌≤◌, nat_lt}
use Rattle.std.proofs.Common.{refl, sym, ap, subst, ◌∙◌, inl, inr, ⊎_elim, arith}
use Rattle.std.specs.List.{filter}
use Rattle.std.proofs.lemmas.Bool.{cases_Bool, cases_lt, cond_both, cond-true, cond-false, lt-ltb, le-ltb, eq-eqb, ne_eqb}
use Rattle.sk_rows.specs.declared.table.Table.{Table}
use Rattle.sk_model.specs.declared.engine.EngineName.{EngineName}
use Rattle.sk_model.specs.declared.engine.EngineName.TheVariants.{Mem, Store}
use Rattle.sk_model.specs.declared.commit.Write.{Write}
use Rattle.sk_model.specs.declared.commit.Commit.{Commit}
use Rattle.sk_model.specs.Numbers.{there, Rises}
use Rattle.sk_model.specs.Stamped.{number_in, Has}
use Rattle.sk_model.specs.Talks.{puts_in}
use Rattle.sk_model.proofs.Lists.{Each}
use Rattle.sk_model.proofs.Numbers.{none_pass}
use Rattle.sk_model.proofs.Nets.{each_net}
use Rattle.sk_weave.specs.Woven.{own_writes}
use Rattle.sk_linked.specs.Reads.{owns}
use Rattle.sk_linked.specs.Traces.{drawn_at, Transaction, commit_in, counts, placed, added, commits_in, In, DrewUnlike}
use Rattle.sk_linked.proofs.Members.{each_in, some_clash, some_same}

pub number_is : (catalog : List Table) (s name : EngineName) (t : Transaction) → number_in s (commit_in catalog name t) ≡ drawn_at s t.drew
number_is catalog Mem name t = refl
number_is catalog Store name t = refl

pub counts_is : (s : EngineName) (t : Transaction) (n : ℕ) → counts s t ≡ Some n → (t.committed ≡ true) × (drawn_at s t.drew ≡ Some n)
counts_is s t n e = ⊎_elim
    (λ (y : t.committed ≡ true). (y, sym (cond-true t.committed (drawn_at s t.drew) None y) ∙ e))
    (λ (f : t.committed ≡ false). some_clash (sym e ∙ cond-false t.committed (drawn_at s t.drew) None f))
    (cases_Bool t.committed)

pub counts_from : (s : EngineName) (t : Transaction) (n : ℕ) → t.committed ≡ true → drawn_at s t.drew ≡ Some n → counts s t ≡ Some n
counts_from s t n y e = cond-true t.committed (drawn_at s t.drew) None y ∙ e

placed_each : (P : Commit → Type 0) (s : EngineName) (n : ℕ) (c : Commit) (ds : List Commit) → P c → Each P ds → Each P (placed s n c ds)
placed_each P s n c [] k h = (k, tt)
placed_each P s n c (d ∷ ds) k h = cond_both (there (nat_lt n) (number_in s d)) (c ∷ d ∷ ds) (d ∷ placed s n c ds) (λ xs. Each P xs) (λ e. (k, h)) (λ e. (h.0, placed_each P s n c ds k h.1))

placed_new : (s : EngineName) (n : ℕ) (c : Commit) (ds : List Commit) → In c (placed s n c ds)
placed_new s n c [] = inl refl
placed_new s n c (d ∷ ds) = cond_both (there (nat_lt n) (number_in s d)) (c ∷ d ∷ ds) (d ∷ placed s n c ds) (λ xs. In c xs) (λ e. inl refl) (λ e. inr (placed_new s n c ds))

placed_old : (s : EngineName) (n : ℕ) (c x : Commit) (ds : List Commit) → In x ds → In x (placed s n c ds)
placed_old s n c x [] i = absurd i
placed_old s n c x (d ∷ ds) i = cond_both (there (nat_lt n) (number_in s d)) (c ∷ d ∷ ds) (d ∷ placed s n c ds) (λ xs. In x xs) (λ e. inr i)
    (λ e. ⊎_elim (λ (a : x ≡ d). inl a) (λ (b : In x ds). inr (placed_old s n c x ds b)) i)

placed_rises : (s : EngineName) (low n : ℕ) (c : Commit) (ds : List Commit) → Rises (number_in s) low ds → low < n → number_in s c ≡ Some n → Each (λ (d : Commit). number_in s d ≡ Some n → ⊥) ds → Rises (number_in s) low (placed s n c ds)
placed_rises s low n c [] r l e u = (n, e, l, tt)
placed_rises s low n c (d ∷ ds) r l e u = ⊎_elim
    (λ (lt : n < r.0).
    let t : there (nat_lt n) (number_in s d) ≡ true = ap (there (nat_lt n)) r.1 ∙ lt-ltb n r.0 lt in
    subst (λ xs. Rises (number_in s) low xs) (sym (cond-true (there (nat_lt n) (number_in s d)) (c ∷ d ∷ ds) (d ∷ placed s n c ds) t)) (n, e, l, (r.0, r.1, lt, r.3)))
    (λ (le : r.0 ≤ n).
    let f : there (nat_lt n) (number_in s d) ≡ false = ap (there (nat_lt n)) r.1 ∙ le-ltb n r.0 le in
    let ne : r.0 ≡ n → ⊥ = λ q. u.0 (r.1 ∙ ap Some q) in
    let lt : r.0 < n = omega (arith, le, ne) in
    subst (λ xs. Rises (number_in s) low xs) (sym (cond-false (there (nat_lt n) (number_in s d)) (c ∷ d ∷ ds) (d ∷ placed s n c ds) f)) (r.0, r.1, r.2, placed_rises s r.0 n c ds r.3 lt e u.1))
    (cases_lt n r.0)

module _ (catalog : List Table) (s : EngineName) where
  pub commits_each : (P : Commit → Type 0) (rs : List Transaction) → ((r : Transaction) → In r rs → (n : ℕ) → counts s r ≡ Some n → P (commit_in catalog s r)) → Each P (commits_in catalog s rs)
  commits_each P [] f = tt
  commits_each P (r ∷ rs) f = go (counts s r) refl (commits_each P rs (λ x i. f x (inr i)))
    where
      go : (o : Option ℕ) → counts s r ≡ o → Each P (commits_in catalog s rs) → Each P (added s o (commit_in catalog s r) (commits_in catalog s rs))
      go None e h = h
      go (Some n) e h = placed_each P s n (commit_in catalog s r) (commits_in catalog s rs) (f r (inl refl) n e) h

  pub counted_in : (rs : List Transaction) (r : Transaction) (n : ℕ) → In r rs → counts s r ≡ Some n → In (commit_in catalog s r) (commits_in catalog s rs)
  counted_in [] r n i e = absurd i
  counted_in (x ∷ rs) r n i e = ⊎_elim
      (λ (a : r ≡ x).
      let c : counts s x ≡ Some n = ap (counts s) (sym a) ∙ e in
      subst (λ (y : Transaction). In (commit_in catalog s y) (added s (counts s x) (commit_in catalog s x) (commits_in catalog s rs))) (sym a)
      (subst (λ o. In (commit_in catalog s x) (added s o (commit_in catalog s x) (commits_in catalog s rs))) (sym c) (placed_new s n (commit_in catalog s x) (commits_in catalog s rs))))
      (λ (a : In r rs). old (counts s x) (counted_in rs r n a e))
      i
    where
      old : (o : Option ℕ) → In (commit_in catalog s r) (commits_in catalog s rs) → In (commit_in catalog s r) (added s o (commit_in catalog s x) (commits_in catalog s rs))
      old None k = k
      old (Some m) k = placed_old s m (commit_in catalog s x) (commit_in catalog s r) (commits_in catalog s rs) k

  pub commits_rise : (low : ℕ) (rs : List Transaction) → ((r : Transaction) → In r rs → (n : ℕ) → drawn_at s r.drew ≡ Some n → low < n) → DrewUnlike s rs → Rises (number_in s) low (commits_in catalog s rs)
  commits_rise low [] f u = tt
  commits_rise low (r ∷ rs) f u = go (counts s r) refl (commits_rise low rs (λ x i. f x (inr i)) u.1)
    where
      go : (o : Option ℕ) → counts s r ≡ o → Rises (number_in s) low (commits_in catalog s rs) → Rises (number_in s) low (added s o (commit_in catalog s r) (commits_in catalog s rs))
      go None e h = h
      go (Some n) e h =
          let c : (r.committed ≡ true) × (drawn_at s r.drew ≡ Some n) = counts_is s r n e in
          placed_rises s low n (commit_in catalog s r) (commits_in catalog s rs) h (f r (inl refl) n c.1) (number_is catalog s s r ∙ c.1)
          (commits_each (λ (d : Commit). number_in s d ≡ Some n → ⊥) rs
          (λ x i m q k. each_in (λ (z : Transaction). (m : ℕ) → drawn_at s r.drew ≡ Some m → drawn_at s z.drew ≡ Some m → ⊥) rs x u.0 i n c.1 (sym (number_is catalog s s x) ∙ k)))

  pub has_in : (n : ℕ) (c : Commit) (cs : List Commit) → In c cs → number_in s c ≡ Some n → Has (number_in s) n cs
  has_in n c [] i e = absurd i
  has_in n c (d ∷ cs) i e = ⊎_elim (λ (a : c ≡ d). inl (ap (number_in s) (sym a) ∙ e)) (λ (b : In c cs). inr (has_in n c cs b e)) i

  pub past_in : (low n : ℕ) (c : Commit) (cs : List Commit) → Rises (number_in s) low cs → In c cs → number_in s c ≡ Some n → low < n
  past_in low n c [] r i e = absurd i
  past_in low n c (d ∷ cs) r i e = ⊎_elim
      (λ (a : c ≡ d). let q : r.0 ≡ n = some_same (sym r.1 ∙ ap (number_in s) (sym a) ∙ e) in let l : low < r.0 = r.2 in omega arith)
      (λ (b : In c cs). let l : r.0 < n = past_in r.0 n c cs r.3 b e in let m : low < r.0 = r.2 in omega arith)
      i

  -- of a rising list one element has the number
  pub one_in : (low n : ℕ) (c : Commit) (cs : List Commit) → Rises (number_in s) low cs → In c cs → number_in s c ≡ Some n → filter (λ d. there (◌==◌ n) (number_in s d)) cs ≡ c ∷ []
  one_in low n c [] r i e = absurd i
  one_in low n c (d ∷ cs) r i e = ⊎_elim
      (λ (a : c ≡ d).
      let q : r.0 ≡ n = some_same (sym r.1 ∙ ap (number_in s) (sym a) ∙ e) in
      let t : there (◌==◌ n) (number_in s d) ≡ true = ap (there (◌==◌ n)) r.1 ∙ eq-eqb n r.0 (sym q) in
      let none : filter (λ d. there (◌==◌ n) (number_in s d)) cs ≡ [] = none_pass (number_in s) (◌==◌ n) r.0 cs r.3 (λ m l. ne_eqb n m (λ z. omega (arith, q, z, l))) in
      cond-true (there (◌==◌ n) (number_in s d)) (d ∷ filter (λ d. there (◌==◌ n) (number_in s d)) cs) (filter (λ d. there (◌==◌ n) (number_in s d)) cs) t
      ∙ ap (λ xs. d ∷ xs) none ∙ ap (λ (z : Commit). z ∷ []) (sym a))
      (λ (b : In c cs).
      let l : r.0 < n = past_in r.0 n c cs r.3 b e in
      let f : there (◌==◌ n) (number_in s d) ≡ false = ap (there (◌==◌ n)) r.1 ∙ ne_eqb n r.0 (λ z. omega (arith, l, z)) in
      cond-false (there (◌==◌ n) (number_in s d)) (d ∷ filter (λ d. there (◌==◌ n) (number_in s d)) cs) (filter (λ d. there (◌==◌ n) (number_in s d)) cs) f
      ∙ one_in r.0 n c cs r.3 b e)
      i

filter_each : (p : Write → Bool) (ws : List Write) → Each (λ w. p w ≡ true) (filter p ws)
filter_each p [] = tt
filter_each p (w ∷ ws) = cond_both (p w) (w ∷ filter p ws) (filter p ws) (λ xs. Each (λ w. p w ≡ true) xs) (λ e. (e, filter_each p ws)) (λ e. filter_each p ws)

-- what is committed in an engine is to its own tables
pub owned_writes : (catalog : List Table) (s : EngineName) (t : Transaction) → Each (λ (w : Write). owns catalog s w.table ≡ true) (commit_in catalog s t).writes
owned_writes catalog s t = each_net (λ (w : Write). owns catalog s w.table ≡ true) (own_writes (owns catalog s) (puts_in t.talk)) (filter_each (λ (w : Write). owns catalog s w.table) (puts_in t.talk))
