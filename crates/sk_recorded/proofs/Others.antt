-- The number of the other engine that points give a commit.
use Rattle.std.specs.Prelude.{ℕ, List, [], ◌∷◌, ◌++◌, Some, None, Bool, true, false, cond, ◌&&◌, ◌==◌, ◌⊎◌, ◌≡◌, ◌<◌, ◌≤◌, nat_lt}
use Rattle.std.proofs.Common.{refl, sym, ap, subst, ◌∙◌, inl, inr, ⊎_elim, arith}
use Rattle.std.proofs.lemmas.Bool.{cases_Bool, cond_both, cond-true, cond-false, and_parts, and_from, ltb-true, lt-ltb, le-ltb, eq-eqb, eqb-true}
use Rattle.sk_model.specs.declared.engine.EngineName.{EngineName}
use Rattle.sk_model.specs.declared.engine.EngineName.TheVariants.{Mem, Store}
use Rattle.sk_model.specs.declared.commit.Commit.{Commit}
use Rattle.sk_model.specs.declared.point.Point.{Point}
use Rattle.sk_model.specs.Stamped.{number_in}
use Rattle.sk_model.proofs.Lists.{Each}
use Rattle.sk_weave.specs.Points.{CanFollow, Climbs}
use Rattle.sk_linked.specs.Reads.{number_at}
use Rattle.sk_weave.specs.Woven.{At}
use Rattle.sk_linked.specs.Traces.{In}
use Rattle.sk_recorded.specs.Joined.{other_at, from_number, other_first, other_number, set_other, with_other}

-- a point's numbers of an engine do not fall, and rise to a commit point
pub stays : (name : EngineName) (p q : Point) → CanFollow p q → number_at name p ≤ number_at name q
stays Mem p q c = c.a_stays
stays Store p q c = c.b_stays

rises : (name : EngineName) (p q : Point) → CanFollow p q → q.commit ≡ true → number_at name p < number_at name q
rises Mem p q c = c.a_rises
rises Store p q c = c.b_rises

module _ (name : EngineName) (n : ℕ) where
  -- ---- at all points

  -- the commit point of n is among these, with this number of the other engine
  abbrev pub Among : ℕ → List Point → Type 0
  Among m [] = ⊥
  Among m (q ∷ qs) = ((q.commit ≡ true) × (number_at name q ≡ n) × (other_at name q ≡ m)) ⊎ Among m qs

  before : (p : Point) (qs : List Point) (m : ℕ) → Climbs p qs → Among m qs → number_at name p < n
  before p [] m c s = absurd s
  before p (q ∷ qs) m c s = ⊎_elim
      (λ (k : (q.commit ≡ true) × (number_at name q ≡ n) × (other_at name q ≡ m)). subst (λ i. number_at name p < i) k.1 (rises name p q c.0 k.0))
      (λ (k : Among m qs). let l : number_at name q < n = before q qs m c.1 k in let r : number_at name p ≤ number_at name q = stays name p q c.0 in omega arith)
      s

  pub other_found : (p : Point) (qs : List Point) (m : ℕ) → Climbs p qs → Among m qs → other_first name n (from_number name n qs) ≡ Some m
  other_found p [] m c s = absurd s
  other_found p (q ∷ qs) m c s = ⊎_elim
      (λ (k : (q.commit ≡ true) × (number_at name q ≡ n) × (other_at name q ≡ m)).
      let g : number_at name q ≡ n = k.1 in
      let not_before : nat_lt (number_at name q) n ≡ false = le-ltb (number_at name q) n (omega arith) in
      ap (other_first name n) (cond-false (nat_lt (number_at name q) n) (from_number name n qs) (q ∷ qs) not_before)
      ∙ cond-true (q.commit && (number_at name q == n)) (Some (other_at name q)) None (and_from _ _ k.0 (eq-eqb (number_at name q) n g))
      ∙ ap Some k.2)
      (λ (k : Among m qs).
      ap (other_first name n) (cond-true (nat_lt (number_at name q) n) (from_number name n qs) (q ∷ qs) (lt-ltb (number_at name q) n (before q qs m c.1 k)))
      ∙ other_found q qs m c.1 k)
      s

  pub other_missing : (qs : List Point) → Each (λ (q : Point). q.commit ≡ true → number_at name q ≡ n → ⊥) qs → other_first name n (from_number name n qs) ≡ None
  other_missing [] h = refl
  other_missing (q ∷ qs) h = cond_both (nat_lt (number_at name q) n) (from_number name n qs) (q ∷ qs) (λ (xs : List Point). other_first name n xs ≡ None)
      (λ e. other_missing qs h.1)
      (λ e. ⊎_elim
      (λ (t : (q.commit && (number_at name q == n)) ≡ true). let k : (q.commit ≡ true) × ((number_at name q == n) ≡ true) = and_parts q.commit (number_at name q == n) t in absurd (h.0 k.0 (eqb-true (number_at name q) n k.1)))
      (λ (f : (q.commit && (number_at name q == n)) ≡ false). cond-false (q.commit && (number_at name q == n)) (Some (other_at name q)) None f)
      (cases_Bool (q.commit && (number_at name q == n))))

  -- ---- at some of the points

  -- the first ones are before n
  pub early_passed : (early qs : List Point) → Each (λ (q : Point). number_at name q < n) early → from_number name n (early ++ qs) ≡ from_number name n qs
  early_passed [] qs h = refl
  early_passed (p ∷ early) qs h = cond-true (nat_lt (number_at name p) n) (from_number name n (early ++ qs)) (p ∷ early ++ qs) (lt-ltb (number_at name p) n h.0) ∙ early_passed early qs h.1

  -- where one of these has reached n, later ones change nothing
  pub later_unread : (qs later : List Point) (q : Point) → In q qs → n ≤ number_at name q → other_first name n (from_number name n (qs ++ later)) ≡ other_first name n (from_number name n qs)
  later_unread [] later q i l = absurd i
  later_unread (p ∷ qs) later q i l = at (nat_lt (number_at name p) n) refl (λ k. later_unread qs later q k l)
    where
      never : number_at name p < n → n ≤ number_at name p → ⊥
      never a b = omega arith

      at : (b : Bool) → nat_lt (number_at name p) n ≡ b → (In q qs → other_first name n (from_number name n (qs ++ later)) ≡ other_first name n (from_number name n qs))
          → other_first name n (cond b (from_number name n (qs ++ later)) (p ∷ qs ++ later)) ≡ other_first name n (cond b (from_number name n qs) (p ∷ qs))
      at false e rest = refl
      at true e rest = ⊎_elim
          (λ (same : q ≡ p). absurd (never (ltb-true (number_at name p) n e) (subst (λ (x : Point). n ≤ number_at name x) same l)))
          (λ (k : In q qs). rest k)
          i

-- points that give a number of the same other number join its commit in the same way
pub joined_same : (name : EngineName) (ps qs : List Point) (c : Commit) (n : ℕ) → number_in name c ≡ Some n → other_number name ps (Some n) ≡ other_number name qs (Some n) → with_other name ps c ≡ with_other name qs c
joined_same name ps qs c n e same = ap (λ o. set_other name o c) (ap (other_number name ps) e ∙ same ∙ sym (ap (other_number name qs) e))

-- a commit point is among the points by its number of either engine
pub among_mem : (a b : ℕ) (qs : List Point) → At a b qs → Among Mem a b qs
among_mem a b [] h = h
among_mem a b (q ∷ qs) h = ⊎_elim
    (λ (k : (q.commit ≡ true) × (q.a ≡ a) × (q.b ≡ b)). inl k)
    (λ (k : At a b qs). inr (among_mem a b qs k))
    h

pub among_store : (a b : ℕ) (qs : List Point) → At a b qs → Among Store b a qs
among_store a b [] h = h
among_store a b (q ∷ qs) h = ⊎_elim
    (λ (k : (q.commit ≡ true) × (q.a ≡ a) × (q.b ≡ b)). inl (k.0, k.2, k.1))
    (λ (k : At a b qs). inr (among_store a b qs k))
    h
