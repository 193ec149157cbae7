-- The first pass, a split and a join keep the rule.
use Rattle.std.proofs.Common.{◌≡◌, ◌≢◌, ◌⊎◌, inl, inr, ℕ, zero, suc, ◌+◌, ◌≤◌, Bool, true, false, ◌==◌, eq-eqb, ne_eqb, List, [], ◌∷◌, ◌++◌, length, length-set, set, Option, None, refl, sym, ap, ◌∙◌, subst, ⊎_elim, arith}
use Rattle.std.proofs.lemmas.List.{append-nil}
use mathlib.Core.Option.{some, some-injective, some-ne-none}
use lib.ListN.{get_elem?}
use Rattle.atomic_table.specs.Table.{State, Splits, Joins, opening}
use Rattle.atomic_table.proofs.Lists.{at_set, set_else, at_longer}
use Rattle.sk_booked.specs.declared.view.Entry.{Entry}
use Rattle.sk_booked.specs.declared.view.Own.{Own}
use Rattle.sk_booked.specs.declared.view.Stage.{Stage}
use Rattle.sk_booked.specs.declared.view.Stage.TheVariants.{Idle, Opening, Holding}
use Rattle.sk_booked.specs.declared.view.View.{View}
use Rattle.sk_booked.specs.Paths.{Path, same_path, Born, Each, put_if, items_by}
use Rattle.sk_booked.specs.Kept.{is_busy, Moment, OwnFits, StageFits, LiveFits, Fits, IsHeld, Kept, newborn}
use Rattle.sk_booked.specs.Plays.{elder, younger, gathered, spent}
use Rattle.sk_booked.proofs.Entries.{same_path-refl, same_path-false, begins-refl, items_by-append, each-map, each-none, each_set, nil_left}
use Rattle.sk_booked.proofs.Steps.{idle_fits}

at_snoc : {A : Type 0} (l : List A) (a b : A) (j : ℕ) → get_elem? (l ++ a ∷ []) j ≡ some b → (get_elem? l j ≡ some b) ⊎ ((j ≡ length l) × (a ≡ b))
at_snoc [] a b zero e = inr (refl, some-injective a b e)
at_snoc [] a b (suc j) e = absurd (some-ne-none b (sym e))
at_snoc (x ∷ xs) a b zero e = inl e
at_snoc (x ∷ xs) a b (suc j) e = ⊎_elim inl (λ (t : (j ≡ length xs) × (a ≡ b)). inr (ap suc t.0, t.1)) (at_snoc xs a b j e)

abbrev bump : Bool → ℕ → ℕ
bump true n = n + 1
bump false n = n

bump-up : (b : Bool) (n : ℕ) → n ≤ bump b n
bump-up true n = omega arith
bump-up false n = omega arith

abbrev pick : Bool → ℕ → ℕ → ℕ
pick true m n = m
pick false m n = n

longer : (k : ℕ) (p : Path) → k ∷ p ≢ p
longer k p e = let h : length (k ∷ p) ≡ length p = ap length e in omega arith

born-up : (splits more : Path → ℕ) → ((p : Path) → splits p ≤ more p) → (p : Path) → Born splits p → Born more p
born-up splits more up [] b = tt
born-up splits more up (k ∷ p) b = (let h = up p in let l = b.0 in omega arith, born-up splits more up p b.1)

none_by : {E : Type 0} (splits : Path → ℕ) (r : Path) → ¬ (Born splits r) → (log : List (Entry E)) → Each (λ (e : Entry E). Born splits e.by) log → items_by r log ≡ []
none_by splits r un [] h = refl
none_by {E} splits r un (e ∷ es) h = ap (λ (b : Bool). put_if b e.item (items_by r es)) (same_path-false r e.by (λ same. un (subst (Born splits) (sym same) h.0))) ∙ none_by splits r un es h.1

module _ {V E : Type 0} (journal : V → List E) (ready : V → Type 0) (kin : V → V → Type 0) (start : V) where
  pub begins : (count : ℕ) → count ≡ length (journal start) → Kept journal ready kin start (opening (1 ∷ count ∷ []) (None ∷ []) (newborn journal start))
  begins count is = record {
    now = now;
    words_are = ap (λ (n : ℕ). 1 ∷ n ∷ []) (is ∙ ap length (sym (append-nil (journal start))));
    homes_are = refl;
    by_born = tt;
    unborn = λ p k h. refl;
    each = one;
    free = λ e. absurd (omega arith);
    held = λ _. record { who = newborn journal start; there = refl; live = refl; busy = refl };
  }
    where
      now : Moment V E
      now = record { log = []; splits = λ _. 0; holder = λ _. 0; lock = 1; writer = 0; homes = some None ∷ [] }

      one : (seat : ℕ) (v : View V E) → get_elem? (newborn journal start ∷ []) seat ≡ some v → Fits journal ready kin start now seat v
      one zero v e = subst (Fits journal ready kin start now 0) (some-injective (newborn journal start) v e) record {
        live = λ _. record {
          began = refl;
          own = record { held = refl; splits_is = refl; born = tt; items_are = refl; seen = begins-refl []; all_seen = refl };
          stage = (record { locked = refl; seat_is = refl; whole = refl }, refl, refl);
        };
        taken = tt;
      }
      one (suc seat) v e = absurd (some-ne-none v (sym e))

  module _ (s : State (Option V) (View V E)) (k : Kept journal ready kin start s) (id : ℕ) (v : View V E) (at : get_elem? s.views id ≡ some v) (live : v.live ≡ true) (alone : v.taken ≡ []) (idle : is_busy v.stage ≡ false) where
    abbrev g : LiveFits journal ready kin start k.now id v
    g = (k.each id v at).live live

    abbrev q : Path
    q = v.own.path

    abbrev r : Path
    r = v.own.splits ∷ q

    abbrev splits' : Path → ℕ
    splits' p = bump (same_path p q) (k.now.splits p)

    abbrev holder' : Path → ℕ
    holder' p = pick (same_path p r) (length s.views) (k.now.holder p)

    abbrev now' : Moment V E
    now' = record { log = k.now.log; splits = splits'; holder = holder'; lock = k.now.lock; writer = k.now.writer; homes = k.now.homes }

    up : (p : Path) → k.now.splits p ≤ splits' p
    up p = bump-up (same_path p q) (k.now.splits p)

    not_born : ¬ (Born k.now.splits r)
    not_born b = let is = g.own.splits_is in let l = b.0 in omega arith

    splits-other : (p : Path) → p ≢ q → splits' p ≡ k.now.splits p
    splits-other p ne = ap (λ (b : Bool). bump b (k.now.splits p)) (same_path-false p q ne)

    splits-here : splits' q ≡ k.now.splits q + 1
    splits-here = ap (λ (b : Bool). bump b (k.now.splits q)) (same_path-refl q)

    holder-other : (p : Path) → p ≢ r → holder' p ≡ k.now.holder p
    holder-other p ne = ap (λ (b : Bool). pick b (length s.views) (k.now.holder p)) (same_path-false p r ne)

    holder-here : holder' r ≡ length s.views
    holder-here = ap (λ (b : Bool). pick b (length s.views) (k.now.holder r)) (same_path-refl r)

    unborn' : (p : Path) (n : ℕ) → splits' p ≤ n → splits' (n ∷ p) ≡ 0
    unborn' p n h = let old : k.now.splits p ≤ n = (let u = up p in omega arith) in let zero_before = k.unborn p n old in
        splits-other (n ∷ p) (λ same. let b : Born k.now.splits (n ∷ p) = subst (Born k.now.splits) (sym same) g.own.born in let l = b.0 in absurd (omega arith)) ∙ zero_before

    own_stays : (seat : ℕ) (o : Own E) → seat ≢ id → OwnFits k.now seat o → OwnFits now' seat o
    own_stays seat o ne h = record {
      held = holder-other o.path (λ same. not_born (subst (Born k.now.splits) same h.born)) ∙ h.held;
      splits_is = h.splits_is ∙ sym (splits-other o.path (λ same. ne (sym h.held ∙ (ap k.now.holder same ∙ g.own.held))));
      born = born-up k.now.splits splits' up o.path h.born;
      items_are = h.items_are;
      seen = h.seen;
      all_seen = h.all_seen;
    }

    stage_stays : (seat : ℕ) (seen : List (Entry E)) (stage : Stage V) → StageFits journal ready kin start k.now seat seen stage → StageFits journal ready kin start now' seat seen stage
    stage_stays seat seen Idle h = tt
    stage_stays seat seen (Opening x) h = (record { locked = h.0.locked; seat_is = h.0.seat_is; whole = h.0.whole }, h.1, h.2)
    stage_stays seat seen (Holding x) h = (record { locked = h.0.locked; seat_is = h.0.seat_is; whole = h.0.whole }, h.1)

    stays : (seat : ℕ) (u : View V E) → seat ≢ id → Fits journal ready kin start k.now seat u → Fits journal ready kin start now' seat u
    stays seat u ne h = record {
      live = λ l. let m = h.live l in record { began = m.began; own = own_stays seat u.own ne m.own; stage = stage_stays seat u.own.seen u.stage m.stage };
      taken = each-map (OwnFits k.now seat) (OwnFits now' seat) u.taken (λ o. own_stays seat o ne) h.taken;
    }

    old_fits : Fits journal ready kin start now' id (elder v)
    old_fits = record {
      live = λ _. record {
        began = g.began;
        own = record {
          held = holder-other q (λ same. not_born (subst (Born k.now.splits) same g.own.born)) ∙ g.own.held;
          splits_is = ap (λ (n : ℕ). n + 1) g.own.splits_is ∙ sym splits-here;
          born = born-up k.now.splits splits' up q g.own.born;
          items_are = g.own.items_are;
          seen = g.own.seen;
          all_seen = g.own.all_seen;
        };
        stage = idle_fits journal ready kin start now' id v.own.seen v.stage idle;
      };
      taken = each-none (OwnFits now' id) v.taken alone;
    }

    none_yet : items_by r k.now.log ≡ []
    none_yet = none_by k.now.splits r not_born k.now.log k.by_born

    new_fits : Fits journal ready kin start now' (length s.views) (younger v)
    new_fits = record {
      live = λ _. record {
        began = g.began;
        own = record {
          held = holder-here;
          splits_is = sym (splits-other r (longer v.own.splits q) ∙ k.unborn q v.own.splits (let is = g.own.splits_is in omega arith));
          born = (let is = g.own.splits_is in let here = splits-here in omega arith, born-up k.now.splits splits' up q g.own.born);
          items_are = none_yet;
          seen = g.own.seen;
          all_seen = nil_left (items_by r v.own.seen) (items_by r g.own.seen.0) (sym (items_by-append r v.own.seen g.own.seen.0) ∙ (ap (items_by r) g.own.seen.1 ∙ none_yet));
        };
        stage = tt;
      };
      taken = tt;
    }

    still_held : IsHeld k.now s.views → IsHeld now' (set s.views id (elder v) ++ younger v ∷ [])
    still_held h = record {
      who = h.who;
      there = at_longer (set s.views id (elder v)) (younger v ∷ []) k.now.writer h.who (set_else s.views id k.now.writer (elder v) (λ same.
          let one : h.who ≡ v = some-injective h.who v (sym h.there ∙ (ap (get_elem? s.views) same ∙ at)) in
          let busy : is_busy v.stage ≡ true = ap (λ (u : View V E). is_busy u.stage) (sym one) ∙ h.busy in
          cc)
          ∙ h.there);
      live = h.live;
      busy = h.busy;
    }

    pub split_keeps : Kept journal ready kin start record { words = s.words; homes = s.homes; views = set s.views id (elder v) ++ younger v ∷ [] }
    split_keeps = record {
      now = now';
      words_are = k.words_are;
      homes_are = k.homes_are;
      by_born = each-map (λ (e : Entry E). Born k.now.splits e.by) (λ (e : Entry E). Born splits' e.by) k.now.log (λ e. born-up k.now.splits splits' up e.by) k.by_born;
      unborn = unborn';
      each = λ seat u is. ⊎_elim
          (λ (there : get_elem? (set s.views id (elder v)) seat ≡ some u). each_set (Fits journal ready kin start now') s.views id (elder v) old_fits (λ j y ne e. stays j y ne (k.each j y e)) seat u there)
          (λ (t : (seat ≡ length (set s.views id (elder v))) × (younger v ≡ u)).
          subst (λ (x : ℕ × View V E). Fits journal ready kin start now' x.0 x.1) (λ i. (sym (t.0 ∙ length-set s.views id (elder v)) i, t.1 i)) new_fits)
          (at_snoc (set s.views id (elder v)) (younger v) u seat is);
      free = λ e. let h = k.free e in record { value = h.value; home = h.home; is_ready = h.is_ready; is_kin = h.is_kin; journal_is = h.journal_is };
      held = λ ne. still_held (k.held ne);
    }

  pub splits : (id : ℕ) (v : View V E) → v.live ≡ true → v.taken ≡ [] → is_busy v.stage ≡ false → Splits (Kept journal ready kin start) id v (elder v) (younger v)
  splits id v live alone idle s k at = split_keeps s k id v at live alone idle

  module _ (s : State (Option V) (View V E)) (k : Kept journal ready kin start s) (id : ℕ) (v : View V E) (at : get_elem? s.views id ≡ some v) (other : ℕ) (w : View V E) (apart : other ≢ id) (there : get_elem? s.views other ≡ some w)
      (v_live : v.live ≡ true) (v_idle : is_busy v.stage ≡ false) (w_live : w.live ≡ true) (w_idle : is_busy w.stage ≡ false) where
    abbrev moved : Path → ℕ
    moved p = pick (k.now.holder p == other) id (k.now.holder p)

    abbrev now'' : Moment V E
    now'' = record { log = k.now.log; splits = k.now.splits; holder = moved; lock = k.now.lock; writer = k.now.writer; homes = k.now.homes }

    moved-other : (p : Path) (seat : ℕ) → k.now.holder p ≡ seat → seat ≢ other → moved p ≡ seat
    moved-other p seat is ne = ap (λ (b : Bool). pick b id (k.now.holder p)) (ne_eqb (k.now.holder p) other (λ e. ne (sym is ∙ e))) ∙ is

    moved-here : (p : Path) → k.now.holder p ≡ other → moved p ≡ id
    moved-here p is = ap (λ (b : Bool). pick b id (k.now.holder p)) (eq-eqb (k.now.holder p) other is)

    own_kept : (seat : ℕ) (o : Own E) → seat ≢ other → OwnFits k.now seat o → OwnFits now'' seat o
    own_kept seat o ne h = record { held = moved-other o.path seat h.held ne; splits_is = h.splits_is; born = h.born; items_are = h.items_are; seen = h.seen; all_seen = h.all_seen }

    own_moved : (o : Own E) → OwnFits k.now other o → OwnFits now'' id o
    own_moved o h = record { held = moved-here o.path h.held; splits_is = h.splits_is; born = h.born; items_are = h.items_are; seen = h.seen; all_seen = h.all_seen }

    stage_kept : (seat : ℕ) (seen : List (Entry E)) (stage : Stage V) → StageFits journal ready kin start k.now seat seen stage → StageFits journal ready kin start now'' seat seen stage
    stage_kept seat seen Idle h = tt
    stage_kept seat seen (Opening x) h = (record { locked = h.0.locked; seat_is = h.0.seat_is; whole = h.0.whole }, h.1, h.2)
    stage_kept seat seen (Holding x) h = (record { locked = h.0.locked; seat_is = h.0.seat_is; whole = h.0.whole }, h.1)

    kept : (seat : ℕ) (u : View V E) → seat ≢ other → Fits journal ready kin start k.now seat u → Fits journal ready kin start now'' seat u
    kept seat u ne h = record {
      live = λ l. let m = h.live l in record { began = m.began; own = own_kept seat u.own ne m.own; stage = stage_kept seat u.own.seen u.stage m.stage };
      taken = each-map (OwnFits k.now seat) (OwnFits now'' seat) u.taken (λ o. own_kept seat o ne) h.taken;
    }

    taker : Fits journal ready kin start now'' id (gathered v w)
    taker = let h = kept id v (λ e. apart (sym e)) (k.each id v at) in record {
      live = λ l. let m = h.live l in record { began = m.began; own = m.own; stage = m.stage };
      taken = (own_moved w.own ((k.each other w there).live w_live).own, h.taken);
    }

    gone : (seat : ℕ) → Fits journal ready kin start now'' seat spent
    gone seat = record { live = λ l. absurd (cc); taken = tt }

    -- neither of the two has the lock
    not_it : (h : IsHeld k.now s.views) (seat : ℕ) (u : View V E) → get_elem? s.views seat ≡ some u → is_busy u.stage ≡ false → k.now.writer ≢ seat
    not_it h seat u is idle same =
        let one : h.who ≡ u = some-injective h.who u (sym h.there ∙ (ap (get_elem? s.views) same ∙ is)) in
        let busy : is_busy u.stage ≡ true = ap (λ (x : View V E). is_busy x.stage) (sym one) ∙ h.busy in
        cc

    still_held'' : IsHeld k.now s.views → IsHeld now'' (set (set s.views id (gathered v w)) other spent)
    still_held'' h = record {
      who = h.who;
      there = set_else (set s.views id (gathered v w)) other k.now.writer spent (not_it h other w there w_idle) ∙ (set_else s.views id k.now.writer (gathered v w) (not_it h id v at v_idle) ∙ h.there);
      live = h.live;
      busy = h.busy;
    }

    pub join_keeps : Kept journal ready kin start record { words = s.words; homes = s.homes; views = set (set s.views id (gathered v w)) other spent }
    join_keeps = record {
      now = now'';
      words_are = k.words_are;
      homes_are = k.homes_are;
      by_born = k.by_born;
      unborn = k.unborn;
      each = each_set (Fits journal ready kin start now'') (set s.views id (gathered v w)) other spent (gone other)
          (λ seat u apart_too is. ⊎_elim
          (λ (y : (seat ≡ id) × (gathered v w ≡ u)). subst (λ (x : ℕ × View V E). Fits journal ready kin start now'' x.0 x.1) (λ i. (sym y.0 i, y.1 i)) taker)
          (λ (y : (seat ≢ id) × (get_elem? s.views seat ≡ some u)). kept seat u apart_too (k.each seat u y.1))
          (at_set s.views id seat (gathered v w) u is));
      free = λ e. let h = k.free e in record { value = h.value; home = h.home; is_ready = h.is_ready; is_kin = h.is_kin; journal_is = h.journal_is };
      held = λ ne. still_held'' (k.held ne);
    }

  pub joins : (id : ℕ) (v : View V E) (other : ℕ) (w : View V E) → v.live ≡ true → is_busy v.stage ≡ false → w.live ≡ true → is_busy w.stage ≡ false → Joins (Kept journal ready kin start) id v other w (gathered v w) spent
  joins id v other w v_live v_idle w_live w_idle s k at apart there = ⊎_elim
      (λ (t : (other ≡ id) × (gathered v w ≡ w)). absurd (apart t.0))
      (λ (t : (other ≢ id) × (get_elem? s.views other ≡ some w)). join_keeps s k id v at other w t.0 t.1 v_live v_idle w_live w_idle)
      (at_set s.views id other (gathered v w) w there)
