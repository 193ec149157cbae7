-- What a number wrote, and the numbers after a stamp and after a void.
use Rattle.std.specs.Prelude.{◌≡◌, ℕ, ◌<◌, List, [], ◌∷◌, ◌++◌, Option, Some, None, Bool, true, false, cond, ◌&&◌, ◌||◌, ◌==◌, IfSome, is_some}
use Rattle.std.proofs.Common.{refl, sym, ap, subst, ◌∙◌, ⊎_elim, arith}
use Rattle.std.specs.List.{list_any}
use Rattle.std.specs.List.Sorted.{IsStrictlySortedBy}
use Rattle.std.specs.Ordering.{nat_cmp}
use Rattle.std.specs.FinMap.{find}
use Rattle.std.proofs.lemmas.Bool.{cases_Bool, false≢true, eqb-true, eq-eqb}
use Rattle.std.proofs.Math.Bool.{and-false}
use Rattle.sk_rows.specs.declared.value.Value.{Value}
use Rattle.sk_model.specs.declared.label.Label.{Label}
use Rattle.sk_model.specs.declared.call.EngineCall.TheVariants as call
use Rattle.sk_model.specs.Records.{same_label}
use Rattle.sk_model.specs.Calls.{is_own}
use Rattle.sk_model.specs.Engine.{EngineTable, Version, VersionState, Open, Closed, Stamped, Dropped, is_of, is_undecided, is_stamped}
use Rattle.sk_model.specs.EngineReplies.{is_used, stamps}
use Rattle.sk_model.specs.EngineChanges.{restand, change}
use Rattle.sk_model.specs.Stamped.{number_of}
use Rattle.sk_model.specs.EngineInvariant.{Listed, Known}
use Rattle.sk_model.proofs.Lists.{Each, each_weaker, each_append, each_front, each_end}
use Rattle.sk_chain.specs.Chained.{Chained}
use Rattle.sk_chain.specs.Writing.{is_by}
use Rattle.sk_engine.specs.Rows.{Chains}
use Rattle.sk_engine.specs.Stands.{Held, Stands, row_versions, is_live, listed, some_chain, wrote_by, row_id_cmp}
use Rattle.sk_engine.specs.Counts.{Used, Counts, Wrote, Entered, stamped_of}
use Rattle.sk_engine.proofs.Counting.{is_given, given_restand, all_wrote_same, each_any}
use Rattle.sk_engine.proofs.Numbering.{stamped_more, stamped_void, used_stamp, used_void}
use Rattle.sk_engine.proofs.Ended.{below, above, unlike, next_rises, then_used, then_climbs, then_low}

given_step : (t : ℕ) (key : Value) (tx : Label) (m : ℕ) (v : Version) (b : Bool) → is_own tx v ≡ b → is_given t key m v ≡ false
    → is_given t key m (cond b (record v { standing = Stamped m }) v) ≡ (is_of t key v && b)
given_step t key tx m v true e off = ap (λ b. is_of t key v && b) (eq-eqb m m refl)
given_step t key tx m v false e off = off ∙ sym (and-false (is_of t key v))

own_given : (t : ℕ) (key : Value) (tx : Label) (m : ℕ) (vs : List Version) → Each (λ (v : Version). is_given t key m v ≡ false) vs
    → list_any (is_given t key m) (restand tx (Stamped m) vs) ≡ list_any (λ v. is_of t key v && is_own tx v) vs
own_given t key tx m [] h = refl
own_given t key tx m (v ∷ vs) h =
    ap (λ b. b || list_any (is_given t key m) (restand tx (Stamped m) vs)) (given_step t key tx m v (is_own tx v) refl h.0)
    ∙ ap (λ b. (is_of t key v && is_own tx v) || b) (own_given t key tx m vs h.1)

own_live : (b : Bool) (st : VersionState) → (b && is_undecided st) ≡ true → is_live st ≡ true
own_live b Open e = refl
own_live b (Closed f) e = refl
own_live b (Stamped n) e = refl
own_live true Dropped e = e
own_live false Dropped e = e

any_pick : (b q l : Bool) (v : Version) (rest : List Version) (x : Bool) (p : Version → Bool) → (q ≡ true → l ≡ true) → p v ≡ q → x ≡ list_any p rest
    → ((b && q) || x) ≡ list_any p (cond (b && l) (v ∷ rest) rest)
any_pick true true true v rest x p h e i = ap (λ c. c || list_any p rest) (sym e)
any_pick true true false v rest x p h e i = absurd (false≢true (h refl))
any_pick true false true v rest x p h e i = i ∙ ap (λ c. c || list_any p rest) (sym e)
any_pick true false false v rest x p h e i = i
any_pick false q l v rest x p h e i = i

any_in_row : (t : ℕ) (key : Value) (tx : Label) (vs : List Version) → list_any (λ v. is_of t key v && is_own tx v) vs ≡ list_any (is_own tx) (row_versions t key vs)
any_in_row t key tx [] = refl
any_in_row t key tx (v ∷ vs) =
    any_pick (is_of t key v) (is_own tx v) (is_live v.standing) v (row_versions t key vs) (list_any (λ v. is_of t key v && is_own tx v) vs) (is_own tx) (own_live (same_label tx v.by) v.standing) refl (any_in_row t key tx vs)

stamped_own : (b : Bool) (st : VersionState) → is_stamped st ≡ true → (b && is_undecided st) ≡ false
stamped_own b Open e = absurd (false≢true e)
stamped_own b (Closed f) e = absurd (false≢true e)
stamped_own true (Stamped n) e = refl
stamped_own false (Stamped n) e = refl
stamped_own b Dropped e = absurd (false≢true e)

own_pending : (tx : Label) (u : Option Version) → IfSome u (λ v. is_undecided v.standing ≡ true) → list_any (is_own tx) (listed u) ≡ is_by tx (some_chain u)
own_pending tx None h = refl
own_pending tx (Some v) h = ap (λ b. (same_label tx v.by && b) || false) h ∙ go (same_label tx v.by)
  where
    go : (b : Bool) → ((b && true) || false) ≡ b
    go true = refl
    go false = refl

own_row : (tx : Label) (xs : List Version) (u : Option Version) → Each (λ (v : Version). is_stamped v.standing ≡ true) xs → IfSome u (λ v. is_undecided v.standing ≡ true) → list_any (is_own tx) (xs ++ listed u) ≡ is_by tx (some_chain u)
own_row tx [] u h k = own_pending tx u k
own_row tx (x ∷ xs) u h k = ap (λ b. b || list_any (is_own tx) (xs ++ listed u)) (stamped_own (same_label tx x.by) x.standing h.0) ∙ own_row tx xs u h.1 k

-- no version has a number that is not used
none_given : (e : EngineTable) (m : ℕ) (t : ℕ) (key : Value) → Listed e.start e → is_used e m ≡ false → Each (λ (v : Version). is_given t key m v ≡ false) e.versions
none_given e m t key l unused = each_weaker _ _ (λ v k. one v k) e.versions l.known
  where
    one : (v : Version) → Known e.stamped v → is_given t key m v ≡ false
    one v k = go v.standing refl
      where
        go : (st : VersionState) → v.standing ≡ st → is_given t key m v ≡ false
        go Open d = ap (λ s. is_of t key v && stamps m s) d ∙ and-false (is_of t key v)
        go (Closed f) d = ap (λ s. is_of t key v && stamps m s) d ∙ and-false (is_of t key v)
        go Dropped d = ap (λ s. is_of t key v && stamps m s) d ∙ and-false (is_of t key v)
        go (Stamped n) d = ⊎_elim
            (λ (s : (m == n) ≡ true).
            let same : m ≡ n = eqb-true m n s in
            let there : is_some (find nat_cmp n e.stamped) ≡ true = k n (ap (λ (x : VersionState). number_of x) d) in
            let yes : is_used e m ≡ true = ap (λ b. b || list_any (◌==◌ m) e.voided) (ap (λ i. is_some (find nat_cmp i e.stamped)) same ∙ there) in
            absurd (false≢true (sym unused ∙ yes)))
            (λ (s : (m == n) ≡ false). ap (λ x. is_of t key v && stamps m x) d ∙ ap (λ b. is_of t key v && b) s ∙ and-false (is_of t key v))
            (cases_Bool (m == n))

new_wrote : (newest p : ℕ) (opening : Label → Option Held) (chain : Chains) (e : EngineTable) (tx : Label) (m : ℕ) → Stands newest p opening chain e → Listed e.start e → is_used e m ≡ false
    → IsStrictlySortedBy row_id_cmp (wrote_by (opening tx)) → Wrote (restand tx (Stamped m) e.versions) m (wrote_by (opening tx))
new_wrote newest p opening chain e tx m h l unused sorted = record {
  ordered = sorted;
  rows = λ t key.
      let r = h.rows t key in
      h.wrote tx t key ∙ ap (λ (c : Chained). is_by tx c.top) r.chain_is ∙ sym (own_row tx r.decided r.undecided r.are_stamped r.is_pending) ∙ ap (list_any (is_own tx)) (sym r.all)
      ∙ sym (any_in_row t key tx e.versions) ∙ sym (own_given t key tx m e.versions (none_given e m t key l unused));
}

flip : (a b : ℕ) → (a == b) ≡ (b == a)
flip a b = grind arith

module _ (newest h p then : ℕ) (us next : List Used) (opening : Label → Option Held) (chain : Chains) (e : EngineTable) (tx : Label) (m : ℕ)
    (s : Stands newest p opening chain e) (l : Listed e.start e) (c : Counts h p us e) (past : p < m) (late : e.start < m) (unused : is_used e m ≡ false) where
  pub counts_stamp : IsStrictlySortedBy row_id_cmp (wrote_by (opening tx)) → Entered h then us next (record { n = m; by = tx; wrote = Some (wrote_by (opening tx)) }) → Counts then p next (change e (call.Stamp tx m))
  counts_stamp sorted en =
      let x : Used = record { n = m; by = tx; wrote = Some (wrote_by (opening tx)) } in
      let vs : List Version = restand tx (Stamped m) e.versions in
      let others : Each (λ (u : Used). IfSome u.wrote (Wrote vs u.n)) us =
      all_wrote_same e.versions vs us (each_weaker _ _ (λ u k t key. given_restand t key u.n tx (Stamped m) k e.versions) us (unlike h p then us next x e c en past late unused)) c.wrote in
      let both : Each (λ (u : Used). IfSome u.wrote (Wrote vs u.n)) (en.front ++ en.back) = subst (Each (λ (u : Used). IfSome u.wrote (Wrote vs u.n))) en.was others in
      record {
        low = then_low h p then us next x e c en past late unused (change e (call.Stamp tx m)) refl (used_stamp e tx m);
        rising = next_rises h p then us next x e c en past late unused;
        stamped = stamped_more p tx e.stamped en.front en.back m (wrote_by (opening tx)) past (below h p then us next x e c en past late unused) (above h p then us next x e c en past late unused) (c.stamped ∙ ap stamped_of en.was)
            ∙ ap stamped_of (sym en.now);
        is_used = then_used h p then us next x e c en past late unused (change e (call.Stamp tx m)) refl (used_stamp e tx m);
        horizon = then_climbs h p then us next x e c en past late unused (change e (call.Stamp tx m)) refl (used_stamp e tx m);
        wrote = subst (Each (λ (u : Used). IfSome u.wrote (Wrote vs u.n))) (sym en.now)
            (each_append (λ (u : Used). IfSome u.wrote (Wrote vs u.n)) en.front (x ∷ en.back) (each_front (λ (u : Used). IfSome u.wrote (Wrote vs u.n)) en.front en.back both)
            (new_wrote newest p opening chain e tx m s l unused sorted, each_end (λ (u : Used). IfSome u.wrote (Wrote vs u.n)) en.front en.back both));
      }

  pub counts_void : Entered h then us next (record { n = m; by = tx; wrote = None }) → Counts then p next (change e (call.Void tx m))
  counts_void en =
      let x : Used = record { n = m; by = tx; wrote = None } in
      let vs : List Version = restand tx Dropped e.versions in
      let others : Each (λ (u : Used). IfSome u.wrote (Wrote vs u.n)) us =
      all_wrote_same e.versions vs us (each_any _ (λ u t key. given_restand t key u.n tx Dropped refl e.versions) us) c.wrote in
      let both : Each (λ (u : Used). IfSome u.wrote (Wrote vs u.n)) (en.front ++ en.back) = subst (Each (λ (u : Used). IfSome u.wrote (Wrote vs u.n))) en.was others in
      record {
        low = then_low h p then us next x e c en past late unused (change e (call.Void tx m)) refl (used_void e m);
        rising = next_rises h p then us next x e c en past late unused;
        stamped = c.stamped ∙ ap stamped_of en.was ∙ stamped_void en.front en.back m tx ∙ ap stamped_of (sym en.now);
        is_used = then_used h p then us next x e c en past late unused (change e (call.Void tx m)) refl (used_void e m);
        horizon = then_climbs h p then us next x e c en past late unused (change e (call.Void tx m)) refl (used_void e m);
        wrote = subst (Each (λ (u : Used). IfSome u.wrote (Wrote vs u.n))) (sym en.now)
            (each_append (λ (u : Used). IfSome u.wrote (Wrote vs u.n)) en.front (x ∷ en.back) (each_front (λ (u : Used). IfSome u.wrote (Wrote vs u.n)) en.front en.back both)
            (tt, each_end (λ (u : Used). IfSome u.wrote (Wrote vs u.n)) en.front en.back both));
      }
