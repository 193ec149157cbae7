-- Places of a log.
use Rattle.std.proofs.Common.{◌≡◌, ℕ, zero, suc, ◌≤◌, ◌<◌, Bool, true, false, cond, leb, inl, inr, [], ◌∷◌, ◌++◌, length, slice_set, Option, Some, None, refl, sym, ap, subst, ◌∙◌, arith}
use Rattle.std.proofs.lemmas.Bool.{cases_lt, leb-true, le-leb}
use Rattle.std.proofs.lemmas.List.{length-set}
use Rattle.sk_undo.specs.declared.undo.Undo.{Undo}
use Rattle.sk_undo.specs.Log.{Log, put_at, named, with_newer, IsOlder, IsStanding, MayBeNamed, record_at, IsNamed, LinksTo, IsLinked, AreLinked, bound, bound_of, met, walk, newest_for}

-- ---- walks

named_below : (s : Option Undo) (n m : ℕ) → IsNamed s n → n ≤ m → bound_of s ≤ m
named_below None n m l le = absurd l
named_below (Some v) n m l le = let lt = l.0 in omega arith

below : (log : Log) (o : Option ℕ) (n m : ℕ) → LinksTo log o n → n ≤ m → bound log o ≤ m
below log None n m l le = omega arith
below log (Some o) n m l le = named_below (record_at log o) n m l le

-- what follows a record is shorter than its number
pub shorter : (log : Log) (at : ℕ) (u : Undo) → AreLinked log → record_at log at ≡ Some u → bound log u.older ≤ u.n
shorter log at u h e = below log u.older u.n u.n (subst (λ (s : Option Undo). IsLinked log s) e (h at)) (omega arith)

pub same_met : (at snapshot : ℕ) (s : Option Undo) (f g : Option ℕ → Option ℕ) → ((u : Undo) → s ≡ Some u → f u.older ≡ g u.older) → met at snapshot s f ≡ met at snapshot s g
same_met at snapshot None f g same = refl
same_met at snapshot (Some u) f g same = ap (λ (r : Option ℕ). cond (leb u.n snapshot) (Some at) r) (same u refl)

none_met : (at snapshot : ℕ) (s : Option Undo) (f : Option ℕ → Option ℕ) → bound_of s ≤ 0 → met at snapshot s f ≡ None
none_met at snapshot None f le = refl
none_met at snapshot (Some u) f le = absurd (omega arith)

-- a walk that is long enough is as good as a longer one
pub enough : (log : Log) → AreLinked log → (k j : ℕ) (from : Option ℕ) (snapshot : ℕ) → bound log from ≤ k → bound log from ≤ j → walk k log from snapshot ≡ walk j log from snapshot
unfolding walk
enough log h zero zero from snapshot p q = refl
enough log h zero (suc j) None snapshot p q = refl
enough log h (suc k) zero None snapshot p q = refl
enough log h (suc k) (suc j) None snapshot p q = refl
enough log h zero (suc j) (Some at) snapshot p q = sym (none_met at snapshot (record_at log at) (λ o. walk j log o snapshot) p)
enough log h (suc k) zero (Some at) snapshot p q = none_met at snapshot (record_at log at) (λ o. walk k log o snapshot) q
enough log h (suc k) (suc j) (Some at) snapshot p q =
    same_met at snapshot (record_at log at) (λ o. walk k log o snapshot) (λ o. walk j log o snapshot)
    (λ u e. let b : bound_of (record_at log at) ≡ suc u.n = ap bound_of e in let t = shorter log at u h e in enough log h k j u.older snapshot (omega arith) (omega arith))

pub past_leb : (a b : ℕ) → b < a → leb a b ≡ false
past_leb a b lt = from (leb a b) refl
  where
    from : (t : Bool) → leb a b ≡ t → leb a b ≡ false
    from true e = absurd (let le = leb-true _ _ e in omega arith)
    from false e = e

-- one step of a walk
pub goes_on : (log : Log) (at snapshot : ℕ) (u : Undo) → AreLinked log → record_at log at ≡ Some u → snapshot < u.n → newest_for log (Some at) snapshot ≡ newest_for log u.older snapshot
unfolding newest_for walk
goes_on log at snapshot u h e past =
    let f = λ (o : Option ℕ). walk u.n log o snapshot in
    ap (λ (r : Option Undo). walk (bound_of r) log (Some at) snapshot) e ∙ ap (λ (r : Option Undo). met at snapshot r f) e ∙ ap (λ (b : Bool). cond b (Some at) (f u.older)) (past_leb u.n snapshot past)
    ∙ enough log h u.n (bound log u.older) u.older snapshot (shorter log at u h e) (omega arith)

pub is_met : (log : Log) (at snapshot : ℕ) (u : Undo) → record_at log at ≡ Some u → u.n ≤ snapshot → newest_for log (Some at) snapshot ≡ Some at
unfolding newest_for walk
is_met log at snapshot u e low =
    let f = λ (o : Option ℕ). walk u.n log o snapshot in
    ap (λ (r : Option Undo). walk (bound_of r) log (Some at) snapshot) e ∙ ap (λ (r : Option Undo). met at snapshot r f) e ∙ ap (λ (b : Bool). cond b (Some at) (f u.older)) (le-leb _ _ low)

pub is_gone : (log : Log) (at snapshot : ℕ) → record_at log at ≡ None → newest_for log (Some at) snapshot ≡ None
unfolding newest_for walk
is_gone log at snapshot e = ap (λ (r : Option Undo). walk (bound_of r) log (Some at) snapshot) e

pub at_end : (log : Log) (snapshot : ℕ) → newest_for log None snapshot ≡ None
unfolding newest_for walk
at_end log snapshot = refl

-- ---- a push keeps the links

pub other : (q k : ℕ) {P : Type 0} → (q ≡ k → P) → ((q ≡ k → ⊥) → P) → P
other q k same not_same =
    elim (cases_lt q k) [
      | inl lt ↦ not_same (λ e. omega arith)
      | inr le ↦ elim (cases_lt k q) [
        | inl lt ↦ not_same (λ e. omega arith)
        | inr ge ↦ same (omega arith)
      ]
    ]

pub put_same : (xs : Log) (k : ℕ) (x : Option Undo) → k ≤ length xs → record_at (put_at xs k x) k ≡ x
unfolding put_at
put_same [] zero x h = refl
put_same [] (suc k) x h = absurd (omega arith)
put_same (y ∷ ys) zero x h = refl
put_same (y ∷ ys) (suc k) x h = put_same ys k x (omega arith)

pub put_other : (xs : Log) (k q : ℕ) (x : Option Undo) → k ≤ length xs → (q ≡ k → ⊥) → record_at (put_at xs k x) q ≡ record_at xs q
unfolding put_at
put_other [] zero zero x h e = absurd (e refl)
put_other [] zero (suc q) x h e = refl
put_other [] (suc k) q x h e = absurd (omega arith)
put_other (y ∷ ys) zero zero x h e = absurd (e refl)
put_other (y ∷ ys) zero (suc q) x h e = refl
put_other (y ∷ ys) (suc k) zero x h e = refl
put_other (y ∷ ys) (suc k) (suc q) x h e = put_other ys k q x (omega arith) (λ s. e (omega arith))

pub set_same : (xs : Log) (k : ℕ) (x : Option Undo) → k < length xs → record_at (slice_set xs k x) k ≡ x
set_same [] k x h = absurd (omega arith)
set_same (y ∷ ys) zero x h = refl
set_same (y ∷ ys) (suc k) x h = set_same ys k x (omega arith)

pub set_other : (xs : Log) (k q : ℕ) (x : Option Undo) → (q ≡ k → ⊥) → record_at (slice_set xs k x) q ≡ record_at xs q
set_other [] k q x e = refl
set_other (y ∷ ys) zero zero x e = absurd (e refl)
set_other (y ∷ ys) zero (suc q) x e = refl
set_other (y ∷ ys) (suc k) zero x e = refl
set_other (y ∷ ys) (suc k) (suc q) x e = set_other ys k q x (λ s. e (omega arith))

pub free_within : (log : Log) (o n : ℕ) → MayBeNamed (record_at log o) n → o < length log
free_within [] o n h = absurd h
free_within (s ∷ log) zero n h = omega arith
free_within (s ∷ log) (suc o) n h = omega (arith, free_within log o n h)

-- a record that stands with a link is not at an empty place
pub stands : (log : Log) (at o n : ℕ) → record_at log at ≡ None → IsNamed (record_at log o) n → o ≡ at → ⊥
stands log at o n e l same = subst (λ (s : Option Undo). IsNamed s n) (ap (record_at log) same ∙ e) l

pub stands_free : (log : Log) (at o n : ℕ) → record_at log at ≡ None → MayBeNamed (record_at log o) n → o ≡ at → ⊥
stands_free log at o n e l same = subst (λ (s : Option Undo). MayBeNamed s n) (ap (record_at log) same ∙ e) l

becomes_named : (s : Option Undo) (n : ℕ) → MayBeNamed s n → IsNamed (with_newer s n) n
becomes_named None n h = absurd h
becomes_named (Some v) n h = (h.0, refl)

pub not_both : (s : Option Undo) (m n : ℕ) → MayBeNamed s n → IsNamed s m → ⊥
not_both None m n f l = f
not_both (Some v) m n f l = let e : None ≡ Some m = sym f.1 ∙ l.1 in cc

-- naming a record that was not named keeps the links, and the links of a record look at what they did
name_links : (log : Log) (older : Option ℕ) (n : ℕ) → IsOlder log older n → (o : Option ℕ) (m : ℕ) → LinksTo log o m → LinksTo (named log older n) o m
name_links log None n free o m l = l
name_links log (Some p) n free None m l = tt
name_links log (Some p) n free (Some o) m l =
    let apart : o ≡ p → ⊥ = λ e. not_both (record_at log p) m n free (subst (λ (q : ℕ). IsNamed (record_at log q) m) e l) in
    subst (λ (s : Option Undo). IsNamed s m) (sym (set_other log p o (with_newer (record_at log p) n) apart)) l

same_link : (log named_log : Log) (s : Option Undo) (n : ℕ) → ((o : Option ℕ) (m : ℕ) → LinksTo log o m → LinksTo named_log o m) → IsLinked log s → IsLinked named_log (with_newer s n)
same_link log named_log None n f l = tt
same_link log named_log (Some u) n f l = f u.older u.n l

plain_link : (log named_log : Log) (s : Option Undo) → ((o : Option ℕ) (m : ℕ) → LinksTo log o m → LinksTo named_log o m) → IsLinked log s → IsLinked named_log s
plain_link log named_log None f l = tt
plain_link log named_log (Some u) f l = f u.older u.n l

named_links : (log : Log) (older : Option ℕ) (n : ℕ) → IsOlder log older n → AreLinked log → AreLinked (named log older n)
named_links log None n free h = h
named_links log (Some p) n free h = λ at.
    other at p
    (λ e. subst (λ (s : Option Undo). IsLinked (named log (Some p) n) s) (sym (ap (record_at (named log (Some p) n)) e ∙ set_same log p (with_newer (record_at log p) n) (free_within log p n free))) (same_link log (named log (Some p) n) (record_at log p) n (name_links log (Some p) n free) (h p)))
    (λ e. subst (λ (s : Option Undo). IsLinked (named log (Some p) n) s) (sym (set_other log p at (with_newer (record_at log p) n) e)) (plain_link log (named log (Some p) n) (record_at log at) (name_links log (Some p) n free) (h at)))

-- a new record at an empty place
put_links : (log : Log) (at : ℕ) (u : Undo) → AreLinked log → record_at log at ≡ None → at ≤ length log → LinksTo log u.older u.n → AreLinked (put_at log at (Some u))
put_links log at u h empty fits l q =
    other q at
    (λ e. subst (λ (s : Option Undo). IsLinked (put_at log at (Some u)) s) (sym (ap (record_at (put_at log at (Some u))) e ∙ put_same log at (Some u) fits)) (moved u.older u.n l))
    (λ e. subst (λ (s : Option Undo). IsLinked (put_at log at (Some u)) s) (sym (put_other log at q (Some u) fits e)) (plain_link log (put_at log at (Some u)) (record_at log q) moved (h q)))
  where
    moved : (o : Option ℕ) (m : ℕ) → LinksTo log o m → LinksTo (put_at log at (Some u)) o m
    moved None m k = tt
    moved (Some o) m k = subst (λ (s : Option Undo). IsNamed s m) (sym (put_other log at o (Some u) fits (stands log at o m empty k))) k

named_len : (log : Log) (older : Option ℕ) (n : ℕ) → length (named log older n) ≡ length log
named_len log None n = refl
named_len log (Some p) n = length-set log p (with_newer (record_at log p) n)

still_empty : (log : Log) (older : Option ℕ) (n at : ℕ) → IsOlder log older n → record_at log at ≡ None → record_at (named log older n) at ≡ None
still_empty log None n at free empty = empty
still_empty log (Some p) n at free empty = set_other log p at (with_newer (record_at log p) n) (λ e. stands_free log at p n empty free (sym e)) ∙ empty

now_named : (log : Log) (older : Option ℕ) (n : ℕ) → IsOlder log older n → LinksTo (named log older n) older n
now_named log None n free = tt
now_named log (Some p) n free = subst (λ (s : Option Undo). IsNamed s n) (sym (set_same log p (with_newer (record_at log p) n) (free_within log p n free))) (becomes_named (record_at log p) n free)

pub push_links : (log : Log) (at : ℕ) (u : Undo) → AreLinked log → IsOlder log u.older u.n → record_at log at ≡ None → at ≤ length log → AreLinked (put_at (named log u.older u.n) at (Some u))
push_links log at u h free empty fits =
    put_links (named log u.older u.n) at u (named_links log u.older u.n free h) (still_empty log u.older u.n at free empty) (omega (arith, named_len log u.older u.n)) (now_named log u.older u.n free)

-- ---- the two steps of a push in the other order

set_put : (xs : Log) (p k : ℕ) (y x : Option Undo) → (p ≡ k → ⊥) → p < length xs → slice_set (put_at xs k x) p y ≡ put_at (slice_set xs p y) k x
unfolding put_at
set_put [] p k y x e h = absurd (omega arith)
set_put (z ∷ xs) zero zero y x e h = absurd (e refl)
set_put (z ∷ xs) zero (suc k) y x e h = refl
set_put (z ∷ xs) (suc p) zero y x e h = refl
set_put (z ∷ xs) (suc p) (suc k) y x e h = ap (λ (zs : Log). z ∷ zs) (set_put xs p k y x (λ s. e (omega arith)) (omega arith))

named_put : (log : Log) (older : Option ℕ) (n at : ℕ) (u : Undo) → IsOlder log older n → record_at log at ≡ None → at ≤ length log → named (put_at log at (Some u)) older n ≡ put_at (named log older n) at (Some u)
named_put log None n at u free empty fits = refl
named_put log (Some p) n at u free empty fits =
    let apart : p ≡ at → ⊥ = stands_free log at p n empty free in
    ap (λ (s : Option Undo). slice_set (put_at log at (Some u)) p (with_newer s n)) (put_other log at p (Some u) fits apart)
    ∙ set_put log p at (with_newer (record_at log p) n) (Some u) apart (free_within log p n free)

pub pushed_links : (log : Log) (at : ℕ) (u : Undo) → AreLinked log → IsOlder log u.older u.n → record_at log at ≡ None → at ≤ length log → AreLinked (named (put_at log at (Some u)) u.older u.n)
pushed_links log at u h free empty fits = subst AreLinked (sym (named_put log u.older u.n at u free empty fits)) (push_links log at u h free empty fits)

pub set_is_put : (xs : Log) (k : ℕ) (x : Option Undo) → k < length xs → slice_set xs k x ≡ put_at xs k x
unfolding put_at
set_is_put [] k x h = absurd (omega arith)
set_is_put (y ∷ ys) zero x h = refl
set_is_put (y ∷ ys) (suc k) x h = ap (λ (zs : Log). y ∷ zs) (set_is_put ys k x (omega arith))

pub push_is_put : (xs : Log) (k : ℕ) (x : Option Undo) → length xs ≤ k → xs ++ x ∷ [] ≡ put_at xs k x
unfolding put_at
push_is_put [] k x p = refl
push_is_put (y ∷ ys) zero x p = absurd (omega arith)
push_is_put (y ∷ ys) (suc k) x p = ap (λ (zs : Log). y ∷ zs) (push_is_put ys k x (omega arith))

pub put_long : (xs : Log) (k : ℕ) (x : Option Undo) → length xs ≤ length (put_at xs k x)
unfolding put_at
put_long [] k x = omega arith
put_long (y ∷ ys) zero x = omega arith
put_long (y ∷ ys) (suc k) x = omega (arith, put_long ys k x)

pub still_stands : (log : Log) (older : Option ℕ) (n at : ℕ) (x : Option Undo) → IsOlder log older n → IsStanding (put_at log at x) older
still_stands log None n at x free = tt
still_stands log (Some p) n at x free = omega (arith, free_within log p n free, put_long log at x)
