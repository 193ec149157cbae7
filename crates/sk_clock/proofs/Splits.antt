-- The first pass, a split and a join keep the rule.
use Rattle.std.proofs.Common.{◌≡◌, ◌≢◌, ◌⊎◌, inl, inr, ℕ, zero, suc, ◌+◌, ◌<◌, ◌≤◌, Bool, true, false, List, [], ◌∷◌, ◌++◌, length, length-set, set, ◌==◌, eq-eqb, ne_eqb, refl, sym, ap, ◌∙◌, subst, ⊎_elim, arith}
use mathlib.Core.Option.{some, some-injective, some-ne-none}
use lib.ListN.{get_elem?}
use Rattle.atomic_table.specs.Table.{State, Splits, Joins, opening}
use Rattle.atomic_table.proofs.Lists.{at_set, set_again}
use Rattle.sk_clock.specs.declared.view.Entry.{Entry}
use Rattle.sk_clock.specs.declared.view.Start.{Start}
use Rattle.sk_clock.specs.declared.view.Own.{Own}
use Rattle.sk_clock.specs.declared.view.View.{View}
use Rattle.sk_clock.specs.Paths.{Path, same_path, Born, Each}
use Rattle.sk_clock.specs.Steps.{put_if, steps_by}
use Rattle.sk_clock.specs.History.{first_cells, words_of}
use Rattle.sk_clock.specs.Kept.{OwnFits, LiveFits, Fits, Kept, IsPlain, newborn, elder, younger, noting, stays_as, told_of, spent, gathered, Gathers}
use Rattle.sk_clock.proofs.Histories.{same_path-refl, same_path-false, begins-refl, steps_by-append, each-map}

at_snoc : {A : Type 0} (l : List A) (a b : A) (j : ℕ) → get_elem? (l ++ a ∷ []) j ≡ some b → (get_elem? l j ≡ some b) ⊎ ((j ≡ length l) × (a ≡ b))
at_snoc [] a b zero e = inr (refl, some-injective a b e)
at_snoc [] a b (suc j) e = absurd (some-ne-none b (sym e))
at_snoc (x ∷ xs) a b zero e = inl e
at_snoc (x ∷ xs) a b (suc j) e = ⊎_elim inl (λ (t : (j ≡ length xs) × (a ≡ b)). inr (ap suc t.0, t.1)) (at_snoc xs a b j e)

at_below : {A : Type 0} (l : List A) (a : A) (j : ℕ) → get_elem? l j ≡ some a → j < length l
at_below [] a j e = absurd (some-ne-none a (sym e))
at_below (x ∷ xs) a zero e = omega arith
at_below (x ∷ xs) a (suc j) e = let h = at_below xs a j e in omega arith

abbrev bump : Bool → ℕ → ℕ
bump true n = n + 1
bump false n = n

bump-up : (b : Bool) (n : ℕ) → n ≤ bump b n
bump-up true n = omega arith
bump-up false n = omega arith

abbrev pick : Bool → ℕ → ℕ → ℕ
pick true m n = m
pick false m n = n

longer : (k : ℕ) (p : Path) → k ∷ p ≢ p
longer k p e = let h : length (k ∷ p) ≡ length p = ap length e in omega arith

born-up : (splits more : Path → ℕ) → ((p : Path) → splits p ≤ more p) → (p : Path) → Born splits p → Born more p
born-up splits more up [] b = tt
born-up splits more up (k ∷ p) b = (let h = up p in let l = b.0 in omega arith, born-up splits more up p b.1)

none_by : (splits : Path → ℕ) (r : Path) → ¬ (Born splits r) → (log : List Entry) → Each (λ (e : Entry). Born splits e.by) log → steps_by r log ≡ []
none_by splits r un [] h = refl
none_by splits r un (e ∷ es) h = ap (λ (b : Bool). put_if b e.step (steps_by r es)) (same_path-false r e.by (λ same. un (subst (Born splits) (sym same) h.0))) ∙ none_by splits r un es h.1

nil_left : {A : Type 0} (xs ys : List A) → xs ++ ys ≡ [] → xs ≡ []
nil_left [] ys e = refl
nil_left (x ∷ xs) ys e = cc

module _ {S : Type 0} (start : Start) where
  pub opens : (ws : List ℕ) → ws ≡ words_of (first_cells start) → Kept {S = S} start (opening ws [] (newborn start))
  opens ws is = record {
    log = [];
    splits = λ _. 0;
    holder = λ _. 0;
    words_are = is;
    legal = tt;
    by_born = tt;
    unborn = λ p k h. refl;
    each = one;
  }
    where
      one : (seat : ℕ) (v : View) → get_elem? (newborn start ∷ []) seat ≡ some v → Fits start [] (λ _. 0) (λ _. 0) seat v
      one zero v e = subst (Fits start [] (λ _. 0) (λ _. 0) 0) (some-injective (newborn start) v e) record {
        seen = begins-refl [];
        told = begins-refl [];
        live = λ _. record { started = refl; own = record { held = refl; splits_is = refl; born = tt; steps_are = refl }; all_seen = refl };
        taken = tt;
      }
      one (suc seat) v e = absurd (some-ne-none v (sym e))

  module _ (s : State S View) (k : Kept start s) (id : ℕ) (v : View) (at : get_elem? s.views id ≡ some v) (plain : IsPlain v) where
    abbrev f : Fits start k.log k.splits k.holder id v
    f = k.each id v at

    abbrev g : LiveFits start k.log k.splits k.holder id v
    g = f.live plain.0

    abbrev q : Path
    q = v.own.path

    abbrev r : Path
    r = v.own.splits ∷ q

    abbrev splits' : Path → ℕ
    splits' p = bump (same_path p q) (k.splits p)

    abbrev holder' : Path → ℕ
    holder' p = pick (same_path p r) (length s.views) (k.holder p)

    up : (p : Path) → k.splits p ≤ splits' p
    up p = bump-up (same_path p q) (k.splits p)

    not_born : ¬ (Born k.splits r)
    not_born b = let is = g.own.splits_is in let l = b.0 in omega arith

    splits-other : (p : Path) → p ≢ q → splits' p ≡ k.splits p
    splits-other p ne = ap (λ (b : Bool). bump b (k.splits p)) (same_path-false p q ne)

    splits-here : splits' q ≡ k.splits q + 1
    splits-here = ap (λ (b : Bool). bump b (k.splits q)) (same_path-refl q)

    holder-other : (p : Path) → p ≢ r → holder' p ≡ k.holder p
    holder-other p ne = ap (λ (b : Bool). pick b (length s.views) (k.holder p)) (same_path-false p r ne)

    holder-here : holder' r ≡ length s.views
    holder-here = ap (λ (b : Bool). pick b (length s.views) (k.holder r)) (same_path-refl r)

    unborn' : (p : Path) (n : ℕ) → splits' p ≤ n → splits' (n ∷ p) ≡ 0
    unborn' p n h = let old : k.splits p ≤ n = (let u = up p in omega arith) in let zero_before = k.unborn p n old in
        splits-other (n ∷ p) (λ same. let b : Born k.splits (n ∷ p) = subst (Born k.splits) (sym same) g.own.born in let l = b.0 in absurd (omega arith)) ∙ zero_before

    own_stays : (seat : ℕ) (o : Own) → seat ≢ id → OwnFits k.log k.splits k.holder seat o → OwnFits k.log splits' holder' seat o
    own_stays seat o ne h = record {
      held = holder-other o.path (λ same. not_born (subst (Born k.splits) same h.born)) ∙ h.held;
      splits_is = h.splits_is ∙ sym (splits-other o.path (λ same. ne (sym h.held ∙ (ap k.holder same ∙ g.own.held))));
      born = born-up k.splits splits' up o.path h.born;
      steps_are = h.steps_are;
    }

    stays : (seat : ℕ) (u : View) → seat ≢ id → Fits start k.log k.splits k.holder seat u → Fits start k.log splits' holder' seat u
    stays seat u ne h = record {
      seen = h.seen;
      told = h.told;
      live = λ l. let m = h.live l in record { started = m.started; own = own_stays seat u.own ne m.own; all_seen = m.all_seen };
      taken = each-map (OwnFits k.log k.splits k.holder seat) (OwnFits k.log splits' holder' seat) u.taken (λ o. own_stays seat o ne) h.taken;
    }

    old_fits : Fits start k.log splits' holder' id (elder v)
    old_fits = record {
      seen = f.seen;
      told = f.told;
      live = λ _. record {
        started = g.started;
        own = record {
          held = holder-other q (λ same. not_born (subst (Born k.splits) same g.own.born)) ∙ g.own.held;
          splits_is = ap (λ (n : ℕ). n + 1) g.own.splits_is ∙ sym splits-here;
          born = born-up k.splits splits' up q g.own.born;
          steps_are = g.own.steps_are;
        };
        all_seen = g.all_seen;
      };
      taken = subst (Each (OwnFits k.log splits' holder' id)) (sym plain.1) tt;
    }

    none_yet : steps_by r k.log ≡ []
    none_yet = none_by k.splits r not_born k.log k.by_born

    new_fits : Fits start k.log splits' holder' (length s.views) (younger v)
    new_fits = record {
      seen = f.seen;
      told = (k.log, refl);
      live = λ _. record {
        started = g.started;
        own = record {
          held = holder-here;
          splits_is = sym (splits-other r (longer v.own.splits q) ∙ k.unborn q v.own.splits (let is = g.own.splits_is in omega arith));
          born = (let is = g.own.splits_is in let here = splits-here in omega arith, born-up k.splits splits' up q g.own.born);
          steps_are = none_yet;
        };
        all_seen = nil_left (steps_by r v.seen) (steps_by r f.seen.0) (sym (steps_by-append r v.seen f.seen.0) ∙ (ap (steps_by r) f.seen.1 ∙ none_yet));
      };
      taken = tt;
    }

    pub split_keeps : Kept start record { words = s.words; homes = s.homes; views = set s.views id (elder v) ++ younger v ∷ [] }
    split_keeps = record {
      log = k.log;
      splits = splits';
      holder = holder';
      words_are = k.words_are;
      legal = k.legal;
      by_born = each-map (λ (e : Entry). Born k.splits e.by) (λ (e : Entry). Born splits' e.by) k.log (λ e. born-up k.splits splits' up e.by) k.by_born;
      unborn = unborn';
      each = λ seat u is. ⊎_elim
          (λ (there : get_elem? (set s.views id (elder v)) seat ≡ some u). ⊎_elim
          (λ (t : (seat ≡ id) × (elder v ≡ u)). subst (λ (x : ℕ × View). Fits start k.log splits' holder' x.0 x.1) (λ i. (sym t.0 i, t.1 i)) old_fits)
          (λ (t : (seat ≢ id) × (get_elem? s.views seat ≡ some u)). stays seat u t.0 (k.each seat u t.1))
          (at_set s.views id seat (elder v) u there))
          (λ (t : (seat ≡ length (set s.views id (elder v))) × (younger v ≡ u)).
          subst (λ (x : ℕ × View). Fits start k.log splits' holder' x.0 x.1) (λ i. (sym (t.0 ∙ length-set s.views id (elder v)) i, t.1 i)) new_fits)
          (at_snoc (set s.views id (elder v)) (younger v) u seat is);
    }

  pub splits : (id : ℕ) (v : View) → IsPlain v → Splits (Kept {S = S} start) id v (elder v) (younger v)
  splits id v plain s k at = split_keeps s k id v at plain

  -- a note is cut off
  pub notes : (id : ℕ) (v : View) → Splits (Kept {S = S} start) id v (stays_as v) (noting v)
  notes id v s k at = record {
    log = k.log;
    splits = k.splits;
    holder = k.holder;
    words_are = k.words_are;
    legal = k.legal;
    by_born = k.by_born;
    unborn = k.unborn;
    each = λ seat u is. ⊎_elim
        (λ (there : get_elem? (set s.views id v) seat ≡ some u). k.each seat u (subst (λ (l : List View). get_elem? l seat ≡ some u) (set_again s.views id v at) there))
        (λ (t : (seat ≡ length (set s.views id v)) × (noting v ≡ u)). subst (Fits start k.log k.splits k.holder seat) t.1 record { seen = (k.each id v at).seen; told = (k.log, refl); live = λ l. absurd (cc); taken = tt })
        (at_snoc (set s.views id v) (noting v) u seat is);
  }

  -- a note is taken in
  pub tells : (id : ℕ) (v : View) (other : ℕ) (w : View) → w.live ≡ false → w.taken ≡ [] → Joins (Kept {S = S} start) id v other w (told_of v w) spent
  tells id v other w dead bare s k at apart there = record {
    log = k.log;
    splits = k.splits;
    holder = k.holder;
    words_are = k.words_are;
    legal = k.legal;
    by_born = k.by_born;
    unborn = k.unborn;
    each = λ seat u is. ⊎_elim
        (λ (t : (seat ≡ other) × (spent ≡ u)). subst (Fits start k.log k.splits k.holder seat) t.1 record { seen = (k.log, refl); told = (k.log, refl); live = λ l. absurd (cc); taken = tt })
        (λ (t : (seat ≢ other) × (get_elem? (set s.views id (told_of v w)) seat ≡ some u)). ⊎_elim
        (λ (y : (seat ≡ id) × (told_of v w ≡ u)). subst (λ (x : ℕ × View). Fits start k.log k.splits k.holder x.0 x.1) (λ i. (sym y.0 i, y.1 i)) heard)
        (λ (y : (seat ≢ id) × (get_elem? s.views seat ≡ some u)). k.each seat u y.1)
        (at_set s.views id seat (told_of v w) u t.1))
        (at_set (set s.views id (told_of v w)) other seat spent u is);
  }
    where
      note : Fits start k.log k.splits k.holder other w
      note = ⊎_elim
          (λ (t : (other ≡ id) × (told_of v w ≡ w)). absurd (apart t.0))
          (λ (t : (other ≢ id) × (get_elem? s.views other ≡ some w)). k.each other w t.1)
          (at_set s.views id other (told_of v w) w there)

      heard : Fits start k.log k.splits k.holder id (told_of v w)
      heard = let h = k.each id v at in record { seen = h.seen; told = note.seen; live = λ l. let m = h.live l in record { started = m.started; own = m.own; all_seen = m.all_seen }; taken = h.taken }

  module _ (s : State S View) (k : Kept start s) (id : ℕ) (v : View) (at : get_elem? s.views id ≡ some v) (other : ℕ) (w : View) (apart : other ≢ id) (there : get_elem? s.views other ≡ some w) (both : Gathers v w) where
    abbrev moved : Path → ℕ
    moved p = pick (k.holder p == other) id (k.holder p)

    moved-other : (p : Path) (seat : ℕ) → k.holder p ≡ seat → seat ≢ other → moved p ≡ seat
    moved-other p seat is ne = ap (λ (b : Bool). pick b id (k.holder p)) (ne_eqb (k.holder p) other (λ e. ne (sym is ∙ e))) ∙ is

    moved-here : (p : Path) → k.holder p ≡ other → moved p ≡ id
    moved-here p is = ap (λ (b : Bool). pick b id (k.holder p)) (eq-eqb (k.holder p) other is)

    own_kept : (seat : ℕ) (o : Own) → seat ≢ other → OwnFits k.log k.splits k.holder seat o → OwnFits k.log k.splits moved seat o
    own_kept seat o ne h = record { held = moved-other o.path seat h.held ne; splits_is = h.splits_is; born = h.born; steps_are = h.steps_are }

    own_moved : (o : Own) → OwnFits k.log k.splits k.holder other o → OwnFits k.log k.splits moved id o
    own_moved o h = record { held = moved-here o.path h.held; splits_is = h.splits_is; born = h.born; steps_are = h.steps_are }

    kept : (seat : ℕ) (u : View) → seat ≢ other → Fits start k.log k.splits k.holder seat u → Fits start k.log k.splits moved seat u
    kept seat u ne h = record {
      seen = h.seen;
      told = h.told;
      live = λ l. let m = h.live l in record { started = m.started; own = own_kept seat u.own ne m.own; all_seen = m.all_seen };
      taken = each-map (OwnFits k.log k.splits k.holder seat) (OwnFits k.log k.splits moved seat) u.taken (λ o. own_kept seat o ne) h.taken;
    }

    taker : Fits start k.log k.splits moved id (gathered v w)
    taker = let h = kept id v (λ e. apart (sym e)) (k.each id v at) in record {
      seen = h.seen;
      told = h.told;
      live = λ l. let m = h.live l in record { started = m.started; own = m.own; all_seen = m.all_seen };
      taken = (own_moved w.own ((k.each other w there).live both.1.0).own, h.taken);
    }

    gone : (seat : ℕ) → Fits start k.log k.splits moved seat spent
    gone seat = record { seen = (k.log, refl); told = (k.log, refl); live = λ l. absurd (cc); taken = tt }

    pub join_keeps : Kept start record { words = s.words; homes = s.homes; views = set (set s.views id (gathered v w)) other spent }
    join_keeps = record {
      log = k.log;
      splits = k.splits;
      holder = moved;
      words_are = k.words_are;
      legal = k.legal;
      by_born = k.by_born;
      unborn = k.unborn;
      each = λ seat u is. ⊎_elim
          (λ (t : (seat ≡ other) × (spent ≡ u)). subst (Fits start k.log k.splits moved seat) t.1 (gone seat))
          (λ (t : (seat ≢ other) × (get_elem? (set s.views id (gathered v w)) seat ≡ some u)). ⊎_elim
          (λ (y : (seat ≡ id) × (gathered v w ≡ u)). subst (λ (x : ℕ × View). Fits start k.log k.splits moved x.0 x.1) (λ i. (sym y.0 i, y.1 i)) taker)
          (λ (y : (seat ≢ id) × (get_elem? s.views seat ≡ some u)). kept seat u t.0 (k.each seat u y.1))
          (at_set s.views id seat (gathered v w) u t.1))
          (at_set (set s.views id (gathered v w)) other seat spent u is);
    }

  pub joins : (id : ℕ) (v : View) (other : ℕ) (w : View) → Gathers v w → Joins (Kept {S = S} start) id v other w (gathered v w) spent
  joins id v other w both s k at apart there = ⊎_elim
      (λ (t : (other ≡ id) × (gathered v w ≡ w)). absurd (apart t.0))
      (λ (t : (other ≢ id) × (get_elem? s.views other ≡ some w)). join_keeps s k id v at other w t.0 t.1 both)
      (at_set s.views id other (gathered v w) w there)
