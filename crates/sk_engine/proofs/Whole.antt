-- What a call does to the whole engine.
use Rattle.std.specs.Prelude.{◌≡◌, ℕ, ◌≤◌, List, [], ◌∷◌, ◌++◌, Option, Some, None, Bool, true, false, cond, not, max, IfSome, is_some}
use Rattle.std.proofs.Common.{refl, sym, ap, subst, ◌∙◌, ⊎_elim}
use Rattle.std.specs.Option.{option_map}
use Rattle.std.specs.FinMap.{put}
use Rattle.std.specs.Ordering.{nat_cmp}
use Rattle.std.proofs.lemmas.Bool.{cases_Bool, cond-true, cond-false, false≢true}
use Rattle.sk_rows.specs.declared.value.Value.{Value}
use Rattle.sk_model.specs.declared.label.Label.{Label}
use Rattle.sk_model.specs.declared.call.EngineCall.TheVariants as call
use Rattle.sk_model.specs.Database.{row_of}
use Rattle.sk_model.specs.Records.{same_label}
use Rattle.sk_model.specs.Engine.{EngineTable, Openings, Closed, opening_of, opening_in}
use Rattle.sk_model.specs.Engine.{Opening as Opened}
use Rattle.sk_model.specs.EngineConditions.{is_standing}
use Rattle.sk_model.specs.EngineConditions.{is_closed as has_floor}
use Rattle.sk_model.proofs.Listed.{some_is, none_some}
use Rattle.sk_chain.specs.Changing.{is_open, is_closed}
use Rattle.sk_model.specs.EngineChanges.{restand, without_opening, closed_at, closed_in, change}
use Rattle.sk_model.proofs.Labels.{same_is, same_itself, not_same_back, find_put, find_without}
use Rattle.sk_chain.specs.declared.version.VersionState.{VersionState}
use Rattle.sk_chain.specs.declared.version.VersionState.TheVariants as state
use Rattle.sk_chain.specs.declared.version.Version.{Version as ChainVersion}
use Rattle.sk_chain.specs.Chained.{Chained}
use Rattle.sk_engine.specs.declared.act.Act.{Act}
use Rattle.sk_engine.specs.declared.act.Act.TheVariants as act
use Rattle.sk_chain.specs.Writing.{is_by}
use Rattle.sk_engine.specs.Rows.{Chains, is_among, acted, all_acted}
use Rattle.sk_engine.specs.Stands.{Held, timed, wrote_by, state_by, opened_at, floored, row_versions, RowIs, Stands}
use Rattle.sk_engine.proofs.Changing.{row_act, standing_of, ended, restated, is_ready, ready_act}

-- two labels that differ, one of which is a third
pub apart : (x y z : Label) → same_label x y ≡ false → same_label x z ≡ true → same_label y z ≡ false
apart x y z n e = ⊎_elim
    (λ (t : same_label y z ≡ true). absurd (false≢true (sym n ∙ ap (same_label x) (same_is y z t) ∙ e)))
    (λ (f : same_label y z ≡ false). f)
    (cases_Bool (same_label y z))

map_cond : {A B : Type 0} (f : A → B) (b : Bool) (x y : Option A) → option_map f (cond b x y) ≡ cond b (option_map f x) (option_map f y)
map_cond f true x y = refl
map_cond f false x y = refl

flipped : {A : Type 0} (b : Bool) (x : Option A) → cond b None x ≡ cond (not b) x None
flipped true x = refl
flipped false x = refl

floors : (o : Option Held) → option_map (λ k. state_by k.floor) o ≡ option_map (λ (x : Opened). state_by x.floor) (option_map timed o)
floors None = refl
floors (Some k) = refl

-- the pending version after an act that ends it
abbrev pub ends : Act → Bool
ends (act.Close f) = false
ends (act.Stamp n) = true
ends act.Void = true

top_after : (a : Act) (c : Chained) → ends a ≡ true → (ended a c).top ≡ None
top_after (act.Close f) c e = absurd (false≢true e)
top_after (act.Stamp n) c e = refl
top_after act.Void c e = refl

-- the pending version of a transaction is open or closed as its opening is
own_state : (newest p : ℕ) (opening : Label → Option Held) (chain : Chains) (e : EngineTable) (tx : Label) (t : ℕ) (key : Value) (v : ChainVersion)
    → Stands newest p opening chain e → (chain t key).top ≡ Some v → same_label tx v.by ≡ true → option_map (λ (x : Opened). state_by x.floor) (opening_of e tx) ≡ Some v.state
own_state newest p opening chain e tx t key v h top own =
    ap (option_map (λ (x : Opened). state_by x.floor)) (sym (h.openings tx)) ∙ sym (floors (opening tx))
    ∙ ap (λ l. option_map (λ k. state_by k.floor) (opening l)) (same_is tx v.by own)
    ∙ subst (λ o. IfSome o (λ v. option_map (λ k. state_by k.floor) (opening v.by) ≡ Some v.state)) top (h.tops t key)

open_ready : (o : Option Opened) (st : VersionState) → is_standing o ≡ true → option_map (λ (x : Opened). state_by x.floor) o ≡ Some st → is_open st ≡ true
open_ready None st s e = absurd (false≢true s)
open_ready (Some o) st s e = let is : state_by o.floor ≡ st = some_is e in subst (λ x. is_open x ≡ true) is (go o.floor s)
  where
    go : (f : Option ℕ) → not (is_some f) ≡ true → is_open (state_by f) ≡ true
    go None s = refl
    go (Some f) s = absurd (false≢true s)

closed_ready : (o : Option Opened) (st : VersionState) → has_floor o ≡ true → option_map (λ (x : Opened). state_by x.floor) o ≡ Some st → is_closed st ≡ true
closed_ready None st s e = absurd (false≢true s)
closed_ready (Some o) st s e = let is : state_by o.floor ≡ st = some_is e in subst (λ x. is_closed x ≡ true) is (go o.floor s)
  where
    go : (f : Option ℕ) → is_some f ≡ true → is_closed (state_by f) ≡ true
    go None s = absurd (false≢true s)
    go (Some f) s = refl

-- what each own pending version is ready for
abbrev pub AreReady : Act → Label → Chains → Type 0
AreReady a tx chain = (t : ℕ) (key : Value) (v : ChainVersion) → (chain t key).top ≡ Some v → same_label tx v.by ≡ true → is_ready a v.state ≡ true

swap : (a : Act) (tx : Label) (c : Chained) → ((v : ChainVersion) → c.top ≡ Some v → same_label tx v.by ≡ true → is_ready a v.state ≡ true)
    → cond (is_by tx c.top) (acted a c) c ≡ cond (is_by tx c.top) (ended a c) c
swap a tx c ready = go c.top refl
  where
    go : (o : Option ChainVersion) → c.top ≡ o → cond (is_by tx o) (acted a c) c ≡ cond (is_by tx o) (ended a c) c
    go None e = refl
    go (Some v) e = at (same_label tx v.by) refl
      where
        at : (b : Bool) → same_label tx v.by ≡ b → cond b (acted a c) c ≡ cond b (ended a c) c
        at true s = ready_act a c v e (ready v e s)
        at false s = refl

pub own_acted : (newest p : ℕ) (opening : Label → Option Held) (chain : Chains) (e : EngineTable) (tx : Label) (a : Act) → Stands newest p opening chain e → AreReady a tx chain
    → (t : ℕ) (key : Value) → all_acted a (wrote_by (opening tx)) chain t key ≡ cond (is_by tx (chain t key).top) (ended a (chain t key)) (chain t key)
own_acted newest p opening chain e tx a h ready t key =
    ap (λ b. cond b (acted a (chain t key)) (chain t key)) (h.wrote tx t key) ∙ swap a tx (chain t key) (ready t key)

-- of an opening that ends
module _ (newest p : ℕ) (opening after : Label → Option Held) (chain : Chains) (e : EngineTable) (tx : Label) (a : Act) (end : ends a ≡ true)
    (h : Stands newest p opening chain e) (ready : AreReady a tx chain)
    (gone : (q : Label) → after q ≡ cond (same_label tx q) None (opening q)) where
  abbrev then : Chains
  then = all_acted a (wrote_by (opening tx)) chain

  acts_own : (t : ℕ) (key : Value) → then t key ≡ cond (is_by tx (chain t key).top) (ended a (chain t key)) (chain t key)
  acts_own = own_acted newest p opening chain e tx a h ready

  -- by whom the pending version is then
  top_of : (c : Chained) (q : Label) → is_by q (cond (is_by tx c.top) (ended a c) c).top ≡ cond (same_label tx q) false (is_by q c.top)
  top_of c q = go c.top (same_label tx q) refl (top_after a c end) refl
    where
      go : (o : Option ChainVersion) (d : Bool) → same_label tx q ≡ d → (ended a c).top ≡ None → c.top ≡ o → is_by q (cond (is_by tx o) (ended a c) c).top ≡ cond d false (is_by q o)
      go None true d n i = rw i refl
      go None false d n i = rw i refl
      go (Some v) d s n i = step (same_label tx v.by) d refl s
        where
          step : (b d : Bool) → same_label tx v.by ≡ b → same_label tx q ≡ d → is_by q (cond b (ended a c) c).top ≡ cond d false (same_label q v.by)
          step true true e s = ap (is_by q) n
          step true false e s = ap (is_by q) n ∙ sym (apart tx q v.by s e)
          step false true e s = ap (is_by q) i ∙ ap (λ x. same_label x v.by) (sym (same_is tx q s)) ∙ e
          step false false e s = ap (is_by q) i

  ended_wrote : (q : Label) (t : ℕ) (key : Value) → is_among t key (wrote_by (after q)) ≡ is_by q (then t key).top
  ended_wrote q t key =
      ap (λ o. is_among t key (wrote_by o)) (gone q) ∙ pull (same_label tx q) (opening q) (h.wrote q t key)
      ∙ sym (top_of (chain t key) q) ∙ ap (λ c. is_by q c.top) (sym (acts_own t key))
    where
      pull : (b : Bool) (o : Option Held) → is_among t key (wrote_by o) ≡ is_by q (chain t key).top → is_among t key (wrote_by (cond b None o)) ≡ cond b false (is_by q (chain t key).top)
      pull true o i = refl
      pull false o i = i

  ended_tops : (t : ℕ) (key : Value) → IfSome (then t key).top (λ v. option_map (λ k. state_by k.floor) (after v.by) ≡ Some v.state)
  ended_tops t key = subst (λ c. IfSome c.top (λ v. option_map (λ k. state_by k.floor) (after v.by) ≡ Some v.state)) (sym (acts_own t key)) (go (chain t key) (h.tops t key))
    where
      go : (c : Chained) → IfSome c.top (λ v. option_map (λ k. state_by k.floor) (opening v.by) ≡ Some v.state) → IfSome (cond (is_by tx c.top) (ended a c) c).top (λ v. option_map (λ k. state_by k.floor) (after v.by) ≡ Some v.state)
      go c i = at c.top refl i
        where
          P : Option ChainVersion → Type 0
          P o = IfSome o (λ v. option_map (λ k. state_by k.floor) (after v.by) ≡ Some v.state)

          at : (o : Option ChainVersion) → c.top ≡ o → IfSome o (λ v. option_map (λ k. state_by k.floor) (opening v.by) ≡ Some v.state) → P (cond (is_by tx o) (ended a c) c).top
          at None s i = subst P (sym s) tt
          at (Some v) s i = step (same_label tx v.by) refl
            where
              step : (b : Bool) → same_label tx v.by ≡ b → P (cond b (ended a c) c).top
              step true e = subst P (sym (top_after a c end)) tt
              step false e = subst P (sym s) (ap (option_map (λ k. state_by k.floor)) (gone v.by ∙ cond-false (same_label tx v.by) None (opening v.by) e) ∙ i)

  ended_openings : (q : Label) → option_map timed (after q) ≡ opening_in q (without_opening tx e.openings)
  ended_openings q =
      ap (option_map timed) (gone q) ∙ map_cond timed (same_label tx q) None (opening q) ∙ ap (λ o. cond (same_label tx q) None o) (h.openings q)
      ∙ flipped (same_label tx q) (opening_of e q) ∙ sym (find_without q tx e.openings)

  ended_in_time : (q : Label) → IfSome (after q) (λ k. p ≤ k.snapshot)
  ended_in_time q = subst (λ o. IfSome o (λ k. p ≤ k.snapshot)) (sym (gone q)) (go (same_label tx q))
    where
      go : (b : Bool) → IfSome (cond b None (opening q)) (λ k. p ≤ k.snapshot)
      go true = tt
      go false = h.in_time q

  ended_floors : (q : Label) → IfSome (after q) (λ k. IfSome k.floor (λ f. k.snapshot ≤ f))
  ended_floors q = subst (λ o. IfSome o (λ k. IfSome k.floor (λ f. k.snapshot ≤ f))) (sym (gone q)) (go (same_label tx q))
    where
      go : (b : Bool) → IfSome (cond b None (opening q)) (λ k. IfSome k.floor (λ f. k.snapshot ≤ f))
      go true = tt
      go false = h.floors q

  ended_rows : (t : ℕ) (key : Value) → RowIs p (row_of e.rows t key) (row_versions t key (restand tx (standing_of a) e.versions)) (then t key)
  ended_rows t key =
      subst (λ c. RowIs p (row_of e.rows t key) (row_versions t key (restand tx (standing_of a) e.versions)) c) (sym (acts_own t key))
      (row_act a p (row_of e.rows t key) tx t key e.versions (chain t key) (h.rows t key))

  -- the opening is gone, and each version of its transaction that was open or closed stands as the act has it
  stands_ended : (stamped : List (ℕ × Label)) (voided : List ℕ)
      → Stands newest p after then (record e { versions = restand tx (standing_of a) e.versions; openings = without_opening tx e.openings; stamped = stamped; voided = voided })
  stands_ended stamped voided = record {
    greatest = h.greatest;
    purged = h.purged;
    openings = ended_openings;
    in_time = ended_in_time;
    floors = ended_floors;
    rows = ended_rows;
    wrote = ended_wrote;
    tops = ended_tops;
  }

pub stands_stamp : (newest p : ℕ) (opening after : Label → Option Held) (chain : Chains) (e : EngineTable) (tx : Label) (n : ℕ)
    → Stands newest p opening chain e → AreReady (act.Stamp n) tx chain → ((q : Label) → after q ≡ cond (same_label tx q) None (opening q))
    → Stands newest p after (all_acted (act.Stamp n) (wrote_by (opening tx)) chain) (change e (call.Stamp tx n))
stands_stamp newest p opening after chain e tx n h ready gone = stands_ended newest p opening after chain e tx (act.Stamp n) refl h ready gone (put nat_cmp n tx e.stamped) e.voided

pub stands_void : (newest p : ℕ) (opening after : Label → Option Held) (chain : Chains) (e : EngineTable) (tx : Label) (n : ℕ)
    → Stands newest p opening chain e → AreReady (act.Void) tx chain → ((q : Label) → after q ≡ cond (same_label tx q) None (opening q))
    → Stands newest p after (all_acted (act.Void) (wrote_by (opening tx)) chain) (change e (call.Void tx n))
stands_void newest p opening after chain e tx n h ready gone = stands_ended newest p opening after chain e tx act.Void refl h ready gone e.stamped (e.voided ++ n ∷ [])

pub stands_drop : (newest p : ℕ) (opening after : Label → Option Held) (chain : Chains) (e : EngineTable) (tx : Label)
    → Stands newest p opening chain e → AreReady (act.Void) tx chain → ((q : Label) → after q ≡ cond (same_label tx q) None (opening q))
    → Stands newest p after (all_acted (act.Void) (wrote_by (opening tx)) chain) (change e (call.DropTx tx))
stands_drop newest p opening after chain e tx h ready gone = stands_ended newest p opening after chain e tx act.Void refl h ready gone e.stamped e.voided

pub ready_close : (newest p : ℕ) (opening : Label → Option Held) (chain : Chains) (e : EngineTable) (tx : Label) (f : ℕ) → Stands newest p opening chain e → is_standing (opening_of e tx) ≡ true → AreReady (act.Close f) tx chain
ready_close newest p opening chain e tx f h s t key v top own = open_ready (opening_of e tx) v.state s (own_state newest p opening chain e tx t key v h top own)

pub ready_stamp : (newest p : ℕ) (opening : Label → Option Held) (chain : Chains) (e : EngineTable) (tx : Label) (n : ℕ) → Stands newest p opening chain e → has_floor (opening_of e tx) ≡ true → AreReady (act.Stamp n) tx chain
ready_stamp newest p opening chain e tx n h s t key v top own = closed_ready (opening_of e tx) v.state s (own_state newest p opening chain e tx t key v h top own)

pub ready_void : (tx : Label) (chain : Chains) → AreReady act.Void tx chain
ready_void tx chain t key v top own = refl

-- an opening that is closed
same_back : (x y : Label) → same_label x y ≡ same_label y x
same_back x y = go (same_label x y) refl
  where
    go : (b : Bool) → same_label x y ≡ b → b ≡ same_label y x
    go true e = sym (ap (λ (z : Label). same_label z x) (sym (same_is x y e)) ∙ same_itself x)
    go false e = sym (not_same_back x y e)

-- the openings after a close
find_closed : (q tx : Label) (f : ℕ) (k r : Option Held) (o : Option Opened) (os : Openings) → option_map timed k ≡ o → option_map timed r ≡ opening_in q os → opening_in tx os ≡ o → (same_label tx q ≡ true → r ≡ k)
    → option_map timed (cond (same_label tx q) (floored f k) r) ≡ opening_in q (closed_in tx f o os)
find_closed q tx f None r None os e i j same = ⊎_elim
    (λ (t : same_label tx q ≡ true). ap (λ b. option_map timed (cond b None r)) t ∙ ap (option_map timed) (sym (same t)) ∙ i)
    (λ (n : same_label tx q ≡ false). ap (λ b. option_map timed (cond b None r)) n ∙ i)
    (cases_Bool (same_label tx q))
find_closed q tx f None r (Some o) os e i j same = none_some e
find_closed q tx f (Some k) r None os e i j same = none_some (sym e)
find_closed q tx f (Some k) r (Some o) os e i j same =
    map_cond timed (same_label tx q) (Some (record { snapshot = k.snapshot; floor = Some f; wrote = k.wrote })) r
    ∙ ap (λ (x : Opened). cond (same_label tx q) (Some (closed_at f x)) (option_map timed r)) (some_is e)
    ∙ ap (λ x. cond (same_label tx q) (Some (closed_at f o)) x) i
    ∙ ap (λ b. cond b (Some (closed_at f o)) (opening_in q os)) (same_back tx q)
    ∙ sym (find_put q tx (closed_at f o) os)

floored_wrote : (f : ℕ) (o : Option Held) → wrote_by (floored f o) ≡ wrote_by o
floored_wrote f None = refl
floored_wrote f (Some k) = refl

by_kept : (q : Label) (st : VersionState) (o : Option ChainVersion) → is_by q (restated st o) ≡ is_by q o
by_kept q st None = refl
by_kept q st (Some v) = refl

module _ (newest p : ℕ) (opening after : Label → Option Held) (chain : Chains) (e : EngineTable) (tx : Label) (f : ℕ)
    (h : Stands newest p opening chain e) (ready : AreReady (act.Close f) tx chain)
    (shut : (q : Label) → after q ≡ cond (same_label tx q) (floored f (opening tx)) (opening q)) where
  abbrev shut_chain : Chains
  shut_chain = all_acted (act.Close f) (wrote_by (opening tx)) chain

  shut_own : (t : ℕ) (key : Value) → shut_chain t key ≡ cond (is_by tx (chain t key).top) (ended (act.Close f) (chain t key)) (chain t key)
  shut_own = own_acted newest p opening chain e tx (act.Close f) h ready

  shut_after : (q : Label) → after q ≡ cond (same_label tx q) (floored f (opening q)) (opening q)
  shut_after q = shut q ∙ go (same_label tx q) refl
    where
      go : (b : Bool) → same_label tx q ≡ b → cond b (floored f (opening tx)) (opening q) ≡ cond b (floored f (opening q)) (opening q)
      go true e = ap (λ x. floored f (opening x)) (same_is tx q e)
      go false e = refl

  shut_wrote : (q : Label) (t : ℕ) (key : Value) → is_among t key (wrote_by (after q)) ≡ is_by q (shut_chain t key).top
  shut_wrote q t key =
      ap (λ o. is_among t key (wrote_by o)) (shut_after q) ∙ ap (is_among t key) (pull (same_label tx q) (opening q))
      ∙ h.wrote q t key ∙ sym (top (is_by tx (chain t key).top) (chain t key)) ∙ ap (λ c. is_by q c.top) (sym (shut_own t key))
    where
      pull : (b : Bool) (o : Option Held) → wrote_by (cond b (floored f o) o) ≡ wrote_by o
      pull true o = floored_wrote f o
      pull false o = refl

      top : (b : Bool) (c : Chained) → is_by q (cond b (ended (act.Close f) c) c).top ≡ is_by q c.top
      top true c = by_kept q (state.Closed f) c.top
      top false c = refl

  shut_tops : (t : ℕ) (key : Value) → IfSome (shut_chain t key).top (λ v. option_map (λ k. state_by k.floor) (after v.by) ≡ Some v.state)
  shut_tops t key = subst (λ c. IfSome c.top (λ v. option_map (λ k. state_by k.floor) (after v.by) ≡ Some v.state)) (sym (shut_own t key)) (go (chain t key) (h.tops t key))
    where
      P : Option ChainVersion → Type 0
      P o = IfSome o (λ v. option_map (λ k. state_by k.floor) (after v.by) ≡ Some v.state)

      closed_state : (o : Option Held) (st : VersionState) → option_map (λ k. state_by k.floor) o ≡ Some st → option_map (λ k. state_by k.floor) (floored f o) ≡ Some (state.Closed f)
      closed_state None st i = cc
      closed_state (Some k) st i = refl

      go : (c : Chained) → IfSome c.top (λ v. option_map (λ k. state_by k.floor) (opening v.by) ≡ Some v.state) → P (cond (is_by tx c.top) (ended (act.Close f) c) c).top
      go c i = at c.top refl i
        where
          at : (o : Option ChainVersion) → c.top ≡ o → IfSome o (λ v. option_map (λ k. state_by k.floor) (opening v.by) ≡ Some v.state) → P (cond (is_by tx o) (ended (act.Close f) c) c).top
          at None s i = subst P (sym s) tt
          at (Some v) s i = step (same_label tx v.by) refl
            where
              step : (b : Bool) → same_label tx v.by ≡ b → P (cond b (ended (act.Close f) c) c).top
              step true e = subst P (sym (ap (restated (state.Closed f)) s)) (ap (option_map (λ k. state_by k.floor)) (shut_after v.by ∙ cond-true (same_label tx v.by) (floored f (opening v.by)) (opening v.by) e) ∙ closed_state (opening v.by) v.state i)
              step false e = subst P (sym s) (ap (option_map (λ k. state_by k.floor)) (shut_after v.by ∙ cond-false (same_label tx v.by) (floored f (opening v.by)) (opening v.by) e) ∙ i)

  shut_openings : (q : Label) → option_map timed (after q) ≡ opening_in q (closed_in tx f (opening_of e tx) e.openings)
  shut_openings q = ap (option_map timed) (shut q) ∙ find_closed q tx f (opening tx) (opening q) (opening_of e tx) e.openings (h.openings tx) (h.openings q) refl (λ t. ap opening (sym (same_is tx q t)))

  shut_in_time : (q : Label) → IfSome (after q) (λ k. p ≤ k.snapshot)
  shut_in_time q = subst (λ o. IfSome o (λ k. p ≤ k.snapshot)) (sym (shut_after q)) (go (same_label tx q) (opening q) (h.in_time q))
    where
      go : (b : Bool) (o : Option Held) → IfSome o (λ k. p ≤ k.snapshot) → IfSome (cond b (floored f o) o) (λ k. p ≤ k.snapshot)
      go true None i = tt
      go true (Some k) i = i
      go false o i = i

shut_floors : (newest : ℕ) (b : Bool) (k r : Option Held) → IfSome k (λ k. k.snapshot ≤ newest) → IfSome r (λ k. IfSome k.floor (λ f. k.snapshot ≤ f)) → IfSome (cond b (floored newest k) r) (λ k. IfSome k.floor (λ f. k.snapshot ≤ f))
shut_floors newest true None r i j = tt
shut_floors newest true (Some k) r i j = i
shut_floors newest false k r i j = j

pub stands_close : (newest p : ℕ) (opening after : Label → Option Held) (chain : Chains) (e : EngineTable) (tx : Label)
    → Stands newest p opening chain e → is_standing (opening_of e tx) ≡ true → IfSome (opening tx) (λ k. k.snapshot ≤ newest)
    → ((q : Label) → after q ≡ cond (same_label tx q) (floored newest (opening tx)) (opening q))
    → Stands newest p after (all_acted (act.Close newest) (wrote_by (opening tx)) chain) (change e (call.Close tx))
stands_close newest p opening after chain e tx h s late shut =
    let ready : AreReady (act.Close newest) tx chain = ready_close newest p opening chain e tx newest h s in
    record {
      greatest = h.greatest;
      purged = h.purged;
      openings = λ q. subst (λ f. option_map timed (after q) ≡ opening_in q (closed_in tx f (opening_of e tx) e.openings)) h.greatest (shut_openings newest p opening after chain e tx newest h ready shut q);
      in_time = shut_in_time newest p opening after chain e tx newest h ready shut;
      floors = λ q. subst (λ o. IfSome o (λ k. IfSome k.floor (λ f. k.snapshot ≤ f))) (sym (shut q)) (shut_floors newest (same_label tx q) (opening tx) (opening q) late (h.floors q));
      rows = λ t key.
          subst (λ f. RowIs p (row_of e.rows t key) (row_versions t key (restand tx (Closed f) e.versions)) (all_acted (act.Close newest) (wrote_by (opening tx)) chain t key)) h.greatest
          (subst (λ c. RowIs p (row_of e.rows t key) (row_versions t key (restand tx (Closed newest) e.versions)) c) (sym (shut_own newest p opening after chain e tx newest h ready shut t key))
          (row_act (act.Close newest) p (row_of e.rows t key) tx t key e.versions (chain t key) (h.rows t key)));
      wrote = shut_wrote newest p opening after chain e tx newest h ready shut;
      tops = shut_tops newest p opening after chain e tx newest h ready shut;
    }

none_timed : (o : Option Held) (r : Option Opened) → option_map timed o ≡ r → r ≡ None → o ≡ None
none_timed None r i n = refl
none_timed (Some k) r i n = none_some (sym (i ∙ n))

pub stands_open : (newest p : ℕ) (opening after : Label → Option Held) (chain : Chains) (e : EngineTable) (tx : Label) (s : ℕ)
    → Stands newest p opening chain e → opening_of e tx ≡ None → p ≤ s
    → ((q : Label) → after q ≡ cond (same_label tx q) (Some (opened_at s)) (opening q))
    → Stands (max newest s) p after chain (change e (call.Open tx s))
stands_open newest p opening after chain e tx s h none le is = record {
  greatest = ap (λ g. max g s) h.greatest;
  purged = h.purged;
  openings = λ q. ap (option_map timed) (is q) ∙ map_cond timed (same_label tx q) (Some (opened_at s)) (opening q)
      ∙ ap (cond (same_label tx q) (Some (timed (opened_at s)))) (h.openings q) ∙ ap (λ b. cond b (Some (timed (opened_at s))) (opening_of e q)) (same_back tx q) ∙ sym (find_put q tx (timed (opened_at s)) e.openings);
  floors = λ q. subst (λ o. IfSome o (λ k. IfSome k.floor (λ f. k.snapshot ≤ f))) (sym (is q)) (unclosed (same_label tx q) q);
  in_time = λ q. subst (λ o. IfSome o (λ k. p ≤ k.snapshot)) (sym (is q)) (timely (same_label tx q) q);
  rows = h.rows;
  wrote = λ q t key. ap (λ o. is_among t key (wrote_by o)) (is q) ∙ fresh (same_label tx q) q t key refl;
  tops = λ t key. tops_of (chain t key).top (h.tops t key);
}
  where
    was : opening tx ≡ None
    was = none_timed (opening tx) (opening_of e tx) (h.openings tx) none

    unclosed : (b : Bool) (q : Label) → IfSome (cond b (Some (opened_at s)) (opening q)) (λ k. IfSome k.floor (λ f. k.snapshot ≤ f))
    unclosed true q = tt
    unclosed false q = h.floors q

    timely : (b : Bool) (q : Label) → IfSome (cond b (Some (opened_at s)) (opening q)) (λ k. p ≤ k.snapshot)
    timely true q = le
    timely false q = h.in_time q

    fresh : (b : Bool) (q : Label) (t : ℕ) (key : Value) → same_label tx q ≡ b → is_among t key (wrote_by (cond b (Some (opened_at s)) (opening q))) ≡ is_by q (chain t key).top
    fresh true q t key e = sym (ap (λ o. is_among t key (wrote_by o)) was) ∙ h.wrote tx t key ∙ ap (λ x. is_by x (chain t key).top) (same_is tx q e)
    fresh false q t key e = h.wrote q t key

    tops_of : (o : Option ChainVersion) → IfSome o (λ v. option_map (λ k. state_by k.floor) (opening v.by) ≡ Some v.state) → IfSome o (λ v. option_map (λ k. state_by k.floor) (after v.by) ≡ Some v.state)
    tops_of None i = tt
    tops_of (Some v) i = go (same_label tx v.by) refl
      where
        go : (b : Bool) → same_label tx v.by ≡ b → option_map (λ k. state_by k.floor) (after v.by) ≡ Some v.state
        go true e =
            let gone : opening v.by ≡ None = ap opening (sym (same_is tx v.by e)) ∙ was in
            let bad : None ≡ Some v.state = sym (ap (option_map (λ k. state_by k.floor)) gone) ∙ i in
            cc
        go false e = ap (option_map (λ k. state_by k.floor)) (is v.by ∙ cond-false (same_label tx v.by) (Some (opened_at s)) (opening v.by) e) ∙ i
