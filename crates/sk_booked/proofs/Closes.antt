-- At the close the lock is free, and each entry is of one of the passes that were handed in.
use Rattle.std.proofs.Common.{◌≡◌, ℕ, zero, suc, ◌-◌, ◌<◌, true, false, List, [], ◌∷◌, ◌++◌, map, length, take, append_assoc, Option, Some, None, refl, sym, ap, ◌∙◌, subst, arith}
use Rattle.std.proofs.lemmas.List.{append-nil}
use mathlib.Core.List.{map-append}
use mathlib.Core.Logic.{dite}
use mathlib.Core.Option.{some, some-injective, some-ne-none, Option as Home}
use native.Mathlib.Decide.{ℕ_discrete}
use lib.ListN.{get_elem?}
use Rattle.atomic_table.specs.Table.{State, Final, Seen}
use Rattle.atomic_table.specs.Seated.{TableId}
use Rattle.atomic_table.proofs.Lists.{at_longer, at_last}
use Rattle.sk_booked.specs.declared.journaled.Journaled.{Ghosts}
use Rattle.sk_booked.specs.declared.book.BookPass.{BookPass}
use Rattle.sk_booked.specs.declared.view.Entry.{Entry}
use Rattle.sk_booked.specs.declared.view.Own.{Own}
use Rattle.sk_booked.specs.declared.view.View.{View}
use Rattle.sk_booked.specs.Paths.{Path, Born, Each}
use Rattle.sk_booked.specs.Kept.{is_busy, OwnFits, AtHome, IsHeld, Kept}
use Rattle.sk_booked.specs.Plays.{gathered}
use Rattle.sk_booked.specs.Of.{own_of}
use Rattle.sk_booked.specs.Answers.{HasPath, IsOfOne, IsEvery, Whole}
use Rattle.sk_booked.proofs.Entries.{each-map, each-snoc}

each-at : {A : Type 0} (P : A → Type 0) (xs : List A) (i : ℕ) (x : A) → Each P xs → get_elem? xs i ≡ some x → P x
each-at P [] i x h e = absurd (some-ne-none x (sym e))
each-at P (y ∷ ys) zero x h e = subst P (some-injective y x e) h.0
each-at P (y ∷ ys) (suc i) x h e = each-at P ys i x h.1 e

module _ {V E : Type 0} (journal : V → List E) (ready : V → Type 0) (kin : V → V → Type 0) (start : V) (s : State (Option V) (View V E)) (k : Kept journal ready kin start s)
    (id : ℕ) (v : View V E) (at : get_elem? s.views id ≡ some v) (live : v.live ≡ true) (idle : is_busy v.stage ≡ false) (every : IsEvery (v.taken ++ v.own ∷ [])) where
  abbrev os : List (Own E)
  os = v.taken ++ v.own ∷ []

  fits : Each (OwnFits k.now id) os
  fits = let f = k.each id v at in each-snoc (OwnFits k.now id) v.taken v.own f.taken (f.live live).own

  fits_at : (i : ℕ) (o : Own E) → get_elem? os i ≡ some o → OwnFits k.now id o
  fits_at i o e = each-at (OwnFits k.now id) os i o fits e

  -- every pass that was split off is there
  found : (p : Path) → Born k.now.splits p → HasPath p os
  found [] b = every.first
  found (n ∷ p) b =
      let h = found p b.1 in
      let less : n < h.1.splits = (let is : h.1.splits ≡ k.now.splits p = (fits_at h.0 h.1 h.2).splits_is ∙ ap k.now.splits h.3 in let l = b.0 in omega arith) in
      let there = every.others h.0 h.1 h.2 n less in
      (there.0, there.1, there.2, there.3 ∙ ap (λ (l : Path). n ∷ l) h.3)

  one_found : (p : Path) → Born k.now.splits p → IsOfOne p os
  one_found p b = let h = found p b in (h.0, h.1, h.2, h.3, λ j u e is. every.once j h.0 u h.1 e h.2 (is ∙ sym h.3))

  -- a pass that had the lock would be among them, and they stand in the seat of one that has it not
  not_held : ¬ (IsHeld k.now s.views)
  not_held h =
      let own = ((k.each k.now.writer h.who h.there).live h.live).own in
      let mine = found h.who.own.path own.born in
      let here : k.now.writer ≡ id = sym own.held ∙ (ap k.now.holder (sym mine.3) ∙ (fits_at mine.0 mine.1 mine.2).held) in
      let one : h.who ≡ v = some-injective h.who v (sym h.there ∙ (ap (get_elem? s.views) here ∙ at)) in
      let busy : is_busy v.stage ≡ true = ap (λ (u : View V E). is_busy u.stage) (sym one) ∙ h.busy in
      cc

  pub at_home : AtHome journal ready kin start k.now
  at_home = dite (ℕ_discrete k.now.lock 0) k.free (λ ne. absurd (not_held (k.held ne)))

  pub home_there : get_elem? s.homes 0 ≡ some (some (Some at_home.value))
  home_there = ap (λ (l : List (Home (Option V))). get_elem? l 0) (sym k.homes_are ∙ at_home.home)

  pub whole : Whole journal ready kin start os at_home.value
  whole = record {
    log = k.now.log;
    journal_is = at_home.journal_is;
    is_ready = at_home.is_ready;
    is_kin = at_home.is_kin;
    each = λ i o e. let f = fits_at i o e in record { items = f.items_are; seen = f.seen };
    by_one = each-map (λ (e : Entry E). Born k.now.splits e.by) (λ (e : Entry E). IsOfOne e.by os) k.now.log (λ e b. one_found e.by b) k.by_born;
  }

-- the slot that comes back has the value
pub value_back : {V E : Type 0} (journal : V → List E) (ready : V → Type 0) (kin : V → V → Type 0) (start : V) (id : ℕ) (v : View V E) (ws : List ℕ) (xs : List (Option V)) (all : List (Own E)) → v.live ≡ true → is_busy v.stage ≡ false
    → v.taken ++ v.own ∷ [] ≡ all → IsEvery all → Final (Seen (Kept journal ready kin start) id v) ws xs → (value : V) × (get_elem? xs 0 ≡ some (Some value)) × Whole journal ready kin start all value
value_back {V} {E} journal ready kin start id v ws xs all live idle is every f =
    let s = f.0 in
    let k = f.1.0 in
    let e : IsEvery (v.taken ++ v.own ∷ []) = subst IsEvery (sym is) every in (
      (at_home journal ready kin start s k id v f.1.1 live idle e).value,
      f.4 0 (Some (at_home journal ready kin start s k id v f.1.1 live idle e).value) (home_there journal ready kin start s k id v f.1.1 live idle e),
      subst (λ (l : List (Own E)). Whole journal ready kin start l (at_home journal ready kin start s k id v f.1.1 live idle e).value) is (whole journal ready kin start s k id v f.1.1 live idle e),
    )

abbrev value_or : {V : Type 0} → V → Option V → V
value_or x None = x
value_or x (Some y) = y

-- what is taken from it is that value
pub is_back : {V : Type 0} (P : V → Type 0) (xs : List (Option V)) (slot : Option V) (x : V) → (value : V) × (get_elem? xs 0 ≡ some (Some value)) × P value → get_elem? xs 0 ≡ some slot → slot ≡ Some x → P x
is_back P xs slot x b there is = subst P (ap (value_or x) (some-injective (Some b.0) slot (sym b.1 ∙ there) ∙ is)) b.2

pub not_back : {V : Type 0} (P : V → Type 0) (xs : List (Option V)) (slot : Option V) → (value : V) × (get_elem? xs 0 ≡ some (Some value)) × P value → get_elem? xs 0 ≡ some slot → ((x : V) → slot ≡ Some x → ⊥) → ⊥
not_back P xs slot b there other = other b.0 (some-injective slot (Some b.0) (sym there ∙ b.1))

-- the list that shrinks at its end
pub none_left : {A : Type 0} (xs ys : List A) (n : ℕ) → xs ≡ ys ++ [] → ys ≡ take (n - 1) xs → n ≡ 0 → xs ≡ []
none_left xs ys n e f z = e ∙ (append-nil ys ∙ (f ∙ ap (λ (m : ℕ). take (m - 1) xs) z))

module _ {V C R : Type 0} {g : Ghosts V C R} where
  pub sum_first : (all rest : List (BookPass V C R g)) (p : BookPass V C R g) → all ≡ rest ++ p ∷ [] → p.seat.me.0.taken ≡ [] → map own_of rest ++ (p.seat.me.0.taken ++ p.seat.me.0.own ∷ []) ≡ map own_of all
  sum_first all rest p e none = ap (λ (l : List (Own (C × R))). map own_of rest ++ (l ++ own_of p ∷ [])) none ∙ (sym (map-append own_of rest (p ∷ [])) ∙ ap (map own_of) (sym e))

  pub sum_more : (old rest : List (BookPass V C R g)) (p : BookPass V C R g) (v w : View V (C × R)) (all : List (Own (C × R))) → old ≡ rest ++ p ∷ [] → w ≡ gathered v p.seat.me.0 → map own_of old ++ (v.taken ++ v.own ∷ []) ≡ all
      → map own_of rest ++ (w.taken ++ w.own ∷ []) ≡ all
  sum_more old rest p v w all e is s = ap (λ (u : View V (C × R)). map own_of rest ++ (u.taken ++ u.own ∷ [])) is
      ∙ (sym (append_assoc (map own_of rest) (own_of p ∷ []) (v.taken ++ v.own ∷ [])) ∙ (ap (λ (l : List (Own (C × R))). l ++ (v.taken ++ v.own ∷ [])) (sym (map-append own_of rest (p ∷ [])) ∙ ap (map own_of) (sym e)) ∙ s))

  abbrev pub SeatedAt : TableId → List (BookPass V C R g) → Type 0
  SeatedAt z ps = (i : ℕ) (p : BookPass V C R g) → get_elem? ps i ≡ some p → p.seat.table_id ≡ z

  pub seated_rest : (z : TableId) (all rest : List (BookPass V C R g)) (p : BookPass V C R g) → all ≡ rest ++ p ∷ [] → SeatedAt z all → SeatedAt z rest
  seated_rest z all rest p e h i q at = h i q (subst (λ (l : List (BookPass V C R g)). get_elem? l i ≡ some q) (sym e) (at_longer rest (p ∷ []) i q at))

  pub seated_last : (z : TableId) (all rest : List (BookPass V C R g)) (p : BookPass V C R g) → all ≡ rest ++ p ∷ [] → SeatedAt z all → p.seat.table_id ≡ z
  seated_last z all rest p e h = h (length rest) p (subst (λ (l : List (BookPass V C R g)). get_elem? l (length rest) ≡ some p) (sym e) (at_last rest p (length rest) refl))

no_pass : {A : Type 0} (i : ℕ) (a : A) → get_elem? [] i ≡ some a → ⊥
no_pass i a e = some-ne-none a (sym e)

pub not_none : {V C R : Type 0} {g : Ghosts V C R} (ps : List (BookPass V C R g)) → IsEvery (map own_of ps) → ps ≡ [] → ⊥
not_none {V} {C} {R} {g} ps every e = let f = every.first in no_pass f.0 f.1 (subst (λ (l : List (BookPass V C R g)). get_elem? (map own_of l) f.0 ≡ some f.1) e f.2)
