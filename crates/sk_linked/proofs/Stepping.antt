-- Each event keeps the invariant.
use Rattle.std.specs.Prelude.{ℕ, zero, suc, List, [], ◌∷◌, ◌++◌, Option, Some, None, Result, Ok, Err, true, false, cond, not, ◌&&◌, ◌≡◌, ◌≤◌, ◌*◌, ◌⊎◌, is_some, drop, take}
use Rattle.std.proofs.Common.{refl, sym, subst, ◌∙◌, inl, inr, ⊎_elim, arith}
use Rattle.std.specs.List.{flat_map}
use Rattle.std.proofs.lemmas.Bool.{cases_Bool, cond_both, cond-true, cond-false, and_parts, not-true}
use Rattle.std.proofs.lemmas.List.{append-nil}
use Rattle.sk_rows.specs.declared.value.Value.{Value}
use Rattle.sk_model.specs.declared.label.Label.{Label}
use Rattle.sk_model.specs.declared.engine.EngineName.{EngineName}
use Rattle.sk_model.specs.declared.engine.EngineName.TheVariants.{Mem, Store}
use Rattle.sk_model.specs.declared.point.Point.{Point}
use Rattle.sk_model.specs.declared.point.Recycled.{Recycled}
use Rattle.sk_model.specs.declared.step.StepName.TheVariants as names
use Rattle.sk_model.specs.declared.commit.Commit.{Commit}
use Rattle.sk_model.specs.declared.call.EngineCall.{EngineCall}
use Rattle.sk_model.specs.declared.call.EngineCall.TheVariants as call
use Rattle.sk_model.specs.declared.call.Entry.{Entry}
use Rattle.sk_rows.specs.declared.table.Table.{Table}
use Rattle.sk_model.specs.Database.{Tables}
use Rattle.sk_model.specs.Records.{same_label}
use Rattle.sk_model.specs.EngineReplies.{horizon_of}
use Rattle.sk_model.specs.EngineConditions.{may}
use Rattle.sk_model.specs.Legal.{due, Legal, Allowed}
use Rattle.sk_model.specs.Talks.{tx_of}
use Rattle.sk_model.proofs.Lists.{Each, each_weaker}
use Rattle.sk_model.proofs.Lookups.{state_is, sorted_after_writes}
use Rattle.sk_weave.specs.declared.answer.Selected.{Selected}
use Rattle.sk_weave.specs.declared.answer.DrawFault.{DrawFault}
use Rattle.sk_weave.specs.declared.answer.DrawFault.TheVariants.{Spent, Early}
use Rattle.sk_weave.specs.Points.{selection, Staircase}
use Rattle.sk_weave.specs.Registry.{Regs, IsSound, first_of, live_of, is_within, selected, drawn, passes, makes_cut, after_cut, greatest_within}
use Rattle.sk_weave.specs.RegistryLaws.{CanStart}
use Rattle.sk_linked.specs.Reads.{AreSorted, first_table}
use Rattle.sk_weave.proofs.Registers.{start_sound}
use Rattle.sk_linked.specs.declared.event.Event.{Event}
use Rattle.sk_linked.specs.declared.event.Event.TheVariants as event
use Rattle.sk_linked.specs.Traces.{drawn_at, run_of, In, Known, IsAtHorizons, Linked}
use Rattle.sk_linked.specs.State.{of, with_of, Actor, Flush, Core, core_at, rest_of, traces_of, table_of, counter}
use Rattle.sk_linked.specs.Plans.{Plan, answer, is_running, is_cross, is_undrawn, is_untouched, is_free, is_opened, select_plan, selects, opens_store, engine_of, read_call, put_call, comes_next, close_of, draw_of, stamp_of, todo, floor_in, draw_plan, checks, stamps, may_stamp_in, in_order, may_close, may_draw, may_check, may_stamp_now, may_leave, plan_for, actor_in, is_next, plan_new, plan_with}
use Rattle.sk_linked.specs.Machine.{Next, not_now, for_label, called, is_greater, cut_taken, cut_next, may_cut, flushed, flush_step, purge_upto, commits_of, durable_place, durable_rows, opening_cut, reopened, live_step, stopped_step, step, run}
use Rattle.sk_linked.specs.Invariant.{IsKept, IsCutOf, Invariant}
use Rattle.sk_linked.proofs.Members.{each_in, in_append}
use Rattle.sk_linked.proofs.Noting.{noted, linked_notes}
use Rattle.sk_linked.proofs.Horizons.{horizon_upto}
use Rattle.sk_linked.proofs.Moving.{Moves, whole, first_stays, rest_grows, stairs_of, points_drawn, first_drawn, cut_moves, cut_sound}
use Rattle.sk_linked.proofs.Applying.{in_later, cut_later, kept_later, Keeps, taken_keeps, keeps_when}
use Rattle.sk_linked.proofs.Events.{Plain, none_is, is_live, undrawn_of, leave_keeps, read_keeps, close_keeps, spent_keeps, failed_keeps, recycled_keeps}
use Rattle.sk_linked.proofs.Writing.{put_keeps, open_keeps, select_keeps}
use Rattle.sk_linked.proofs.Deciding.{draw_keeps, pass_keeps}
use Rattle.sk_linked.proofs.Stamping.{stamp_keeps}
use Rattle.sk_linked.proofs.Beginning.{begin_keeps}

-- ---- the events of a transaction that is there

module _ (k : Core) (inv : Invariant k) (r : Actor) (among : In r k.actors) where
  free_parts : is_free r ≡ true → (is_running r.stage ≡ true) × (is_untouched r ≡ true)
  free_parts e = and_parts (is_running r.stage) (is_untouched r) e

  select_any : (tx : Label) → is_free r ≡ true → (m : Option ℕ) → r.opened.mem ≡ m → (c : Option ℕ) → Keeps k (event.Select tx) (selects k r m c)
  select_any tx f (Some a) e None = result (selected k.regs a k.regs.store) refl
    where
      result : (x : Result Selected Recycled) → selected k.regs a k.regs.store ≡ x → Keeps k (event.Select tx) (Some (select_plan k r a x))
      result (Ok s) q = select_keeps k inv r among (free_parts f).1 tx a e (free_parts f).0 s q
      result (Err q) g = recycled_keeps k inv r among (is_live r (undrawn_of r (free_parts f).1)) tx q
  select_any tx f (Some a) e (Some b) = tt
  select_any tx f None e c = tt

  open_any : (tx : Label) → is_free r ≡ true → (c : Option ℕ) → r.chosen ≡ c → (s : Option ℕ) → r.opened.store ≡ s → Keeps k (event.OpenStore tx) (opens_store k r c s)
  open_any tx f (Some b) e None g = open_keeps k inv r among (free_parts f).1 tx b g e (free_parts f).0 (answer k Store (call.Open r.label b)) refl
  open_any tx f (Some b) e (Some s) g = tt
  open_any tx f None e s g = tt

  read_plain : (t : ℕ) (key : Option Value) → Plain (engine_of k t) r (read_call r.label t key)
  read_plain t (Some key) = refl
  read_plain t None = refl

  draw_any : (tx : Label) (name : EngineName) → may_draw r name ≡ true → (x : Result ℕ DrawFault) → drawn (counter name k.regs) (floor_in k r name) ≡ x → Keeps k (event.Draw tx name) (draw_plan k r name x)
  draw_any tx name f (Ok n) e =
      let parts : ((comes_next (draw_of name) (todo r) && in_order r name) ≡ true) × (((of name r.shut && of name r.wrote) && (not r.committed && not (is_some (drawn_at name r.drew)))) ≡ true) = and_parts _ _ f in
      let more : ((of name r.shut && of name r.wrote) ≡ true) × ((not r.committed && not (is_some (drawn_at name r.drew))) ≡ true) = and_parts _ _ parts.1 in
      let flags : (of name r.shut ≡ true) × (of name r.wrote ≡ true) = and_parts _ _ more.0 in
      let none : (not r.committed ≡ true) × (not (is_some (drawn_at name r.drew)) ≡ true) = and_parts _ _ more.1 in
      draw_keeps k inv r among (not-true r.committed none.0) tx name n e flags.0 flags.1 (none_is (drawn_at name r.drew) none.1)
  draw_any tx name f (Err Spent) e =
      let parts : ((comes_next (draw_of name) (todo r) && in_order r name) ≡ true) × (((of name r.shut && of name r.wrote) && (not r.committed && not (is_some (drawn_at name r.drew)))) ≡ true) = and_parts _ _ f in
      let more : ((of name r.shut && of name r.wrote) ≡ true) × ((not r.committed && not (is_some (drawn_at name r.drew))) ≡ true) = and_parts _ _ parts.1 in
      let none : (not r.committed ≡ true) × (not (is_some (drawn_at name r.drew)) ≡ true) = and_parts _ _ more.1 in
      spent_keeps k inv r among (not-true r.committed none.0) tx name
  draw_any tx name f (Err (Early floor counter)) e = tt

  check_any : (tx : Label) → may_check r ≡ true → (m : Option ℕ) → r.drew.mem ≡ m → (s : Option ℕ) → r.drew.store ≡ s → Keeps k (event.Check tx) (checks k r m s)
  check_any tx f (Some ca) e (Some cb) g =
      let parts : (comes_next names.Check (todo r) ≡ true) × (((r.shut.mem && r.shut.store) && not r.committed) ≡ true) = and_parts _ _ f in
      let more : ((r.shut.mem && r.shut.store) ≡ true) × (not r.committed ≡ true) = and_parts _ _ parts.1 in
      let shut : (r.shut.mem ≡ true) × (r.shut.store ≡ true) = and_parts _ _ more.0 in
      cond_both (passes k.regs ca cb) _ _ (λ (p : Plan). Keeps k (event.Check tx) (Some p))
      (λ y. pass_keeps k inv r among (not-true r.committed more.1) tx ca cb e g y shut.0 shut.1)
      (λ y. failed_keeps k inv r among (not-true r.committed more.1) tx ca cb e g)
  check_any tx f (Some ca) e None g = tt
  check_any tx f None e s g = tt

  stamp_any : (tx : Label) (name : EngineName) → may_stamp_now r name ≡ true → (o : Option ℕ) → drawn_at name r.drew ≡ o → Keeps k (event.Stamp tx name) (stamps k r name o)
  stamp_any tx name f None e = tt
  stamp_any tx name f (Some n) e = keeps_when k (event.Stamp tx name) (may_stamp_in r name) _ (λ y. stamp_keeps k inv r among tx name n e (and_parts (comes_next (stamp_of name) (todo r)) (of name r.shut) f).1 y)

  pub plan_keeps : (e : Event) → Keeps k e (plan_for k r e)
  plan_keeps (event.Begin tx kind) = tt
  plan_keeps (event.Select tx) = keeps_when k (event.Select tx) (is_free r && is_cross r.kind) _ (λ y. select_any tx (and_parts (is_free r) (is_cross r.kind) y).0 r.opened.mem refl r.chosen)
  plan_keeps (event.OpenStore tx) = keeps_when k (event.OpenStore tx) (is_free r) _ (λ y. open_any tx y r.chosen refl r.opened.store refl)
  plan_keeps (event.Read tx t key) = keeps_when k (event.Read tx t key) (is_free r && is_opened r (engine_of k t)) _
      (λ y. let parts : (is_free r ≡ true) × (is_opened r (engine_of k t) ≡ true) = and_parts (is_free r) (is_opened r (engine_of k t)) y in
      read_keeps k inv r among (free_parts parts.0).1 tx t key (engine_of k t) (read_call r.label t key) (answer k (engine_of k t) (read_call r.label t key)) (free_parts parts.0).0 parts.1 (read_plain t key))
  plan_keeps (event.Put tx w) = keeps_when k (event.Put tx w) (is_free r && is_opened r (engine_of k w.table)) _
      (λ y. let parts : (is_free r ≡ true) × (is_opened r (engine_of k w.table) ≡ true) = and_parts (is_free r) (is_opened r (engine_of k w.table)) y in
      put_keeps k inv r among (free_parts parts.0).1 tx w (engine_of k w.table) (answer k (engine_of k w.table) (put_call r.label w)) refl (free_parts parts.0).0 parts.1)
  plan_keeps (event.Close tx name) = keeps_when k (event.Close tx name) (may_close r name) _
      (λ y. close_keeps k inv r among (is_live r (and_parts (is_undrawn r) (not (of name r.shut)) (and_parts (comes_next (close_of name) (todo r)) (is_undrawn r && not (of name r.shut)) y).1).0) tx name (answer k name (call.Close r.label)) refl)
  plan_keeps (event.Draw tx name) = keeps_when k (event.Draw tx name) (may_draw r name) _ (λ y. draw_any tx name y (drawn (counter name k.regs) (floor_in k r name)) refl)
  plan_keeps (event.Check tx) = keeps_when k (event.Check tx) (may_check r) _ (λ y. check_any tx y r.drew.mem refl r.drew.store refl)
  plan_keeps (event.Stamp tx name) = keeps_when k (event.Stamp tx name) (may_stamp_now r name) _ (λ y. stamp_any tx name y (drawn_at name r.drew) refl)
  plan_keeps (event.Leave tx name) = keeps_when k (event.Leave tx name) (may_leave r) _ (λ y. leave_keeps k inv r among (is_live r (and_parts _ (is_undrawn r) y).1) tx name)
  plan_keeps event.Cut = tt
  plan_keeps event.FlushStep = tt
  plan_keeps (event.Purge name) = tt
  plan_keeps event.Stop = tt
  plan_keeps event.Reopen = tt

pub actor_found : (tx : Label) (rs : List Actor) (r : Actor) → actor_in tx rs ≡ Some r → In r rs × (same_label tx r.label ≡ true)
actor_found tx [] r e = absurd (clash e)
  where
    clash : None ≡ Some r → ⊥
    clash e = cc
actor_found tx (x ∷ xs) r e = ⊎_elim
    (λ (y : same_label tx x.label ≡ true). at (sym (cond-true (same_label tx x.label) (Some x) (actor_in tx xs) y) ∙ e) y)
    (λ (f : same_label tx x.label ≡ false). let k : In r xs × (same_label tx r.label ≡ true) = actor_found tx xs r (sym (cond-false (same_label tx x.label) (Some x) (actor_in tx xs) f) ∙ e) in (inr k.0, k.1))
    (cases_Bool (same_label tx x.label))
  where
    at : Some x ≡ Some r → same_label tx x.label ≡ true → In r (x ∷ xs) × (same_label tx r.label ≡ true)
    at q y = let same : x ≡ r = cc in (inl (sym same), subst (λ (z : Actor). same_label tx z.label ≡ true) same y)

-- ---- calls of no transaction

module _ (k : Core) (inv : Invariant k) where
  -- a core with other points, as after a cut
  pub noted_keeps : (name : EngineName) (c : EngineCall) → tx_of c ≡ None → may (table_of k name) c ≡ true → Invariant (called k name c)
  noted_keeps name c none lets = record {
    sorted = inv.sorted;
    sound = inv.sound;
    linked = subst Linked same (linked_notes (traces_of k) es [] inv.linked (record {
      legal = legal;
      allowed = allowed;
      none = no_tx;
      stairs = subst (λ (ps : List Point). Staircase (first_of k.regs.points ∷ ps)) (sym (append-nil (rest_of k.regs.points))) inv.linked.stairs;
      selections = tt;
      cuts = tt;
    }));
    actors = inv.actors;
    durable = inv.durable;
    flush = inv.flush;
  }
    where
      entry : Entry
      entry = record { call = c; reply = due (table_of k name) c }

      one : EngineName → EngineName → Entry → List Entry
      one Mem Mem j = j ∷ []
      one Mem Store j = []
      one Store Mem j = []
      one Store Store j = j ∷ []

      es : EngineName → List Entry
      es s = one name s entry

      of_one : (P : EngineName → List Entry → Type 0) → ((s : EngineName) → P s []) → P name (entry ∷ []) → (s : EngineName) → P s (one name s entry)
      of_one P f p s = go name s p
        where
          go : (n s : EngineName) → P n (entry ∷ []) → P s (one n s entry)
          go Mem Mem p = p
          go Mem Store p = f Store
          go Store Mem p = f Mem
          go Store Store p = p

      legal : (s : EngineName) → Legal (table_of k s) (one name s entry)
      legal = of_one (λ s js. Legal (table_of k s) js) (λ s. tt) (inr refl, tt)

      allowed : (s : EngineName) → Allowed (table_of k s) (one name s entry)
      allowed = of_one (λ s js. Allowed (table_of k s) js) (λ s. tt) (lets, tt)

      no_tx : (s : EngineName) → Each (λ (j : Entry). tx_of j.call ≡ None) (one name s entry)
      no_tx = of_one (λ s js. Each (λ (j : Entry). tx_of j.call ≡ None) js) (λ s. tt) (none, tt)

      journal : (s : EngineName) → of s k.journals ++ one name s entry ≡ of s (called k name c).journals
      journal s = go name s entry
        where
          go : (n s : EngineName) (j : Entry) → of s k.journals ++ one n s j ≡ of s (with_of n (of n k.journals ++ j ∷ []) k.journals)
          go Mem Mem j = refl
          go Mem Store j = append-nil k.journals.store
          go Store Mem j = append-nil k.journals.mem
          go Store Store j = refl

      same : noted (traces_of k) es [] ≡ traces_of (called k name c)
      same = λ x. record {
        catalog = k.catalog;
        rows = k.rows;
        first = first_of k.regs.points;
        points = append-nil (rest_of k.regs.points) x;
        journals = λ s. journal s x;
        transactions = (traces_of k).transactions;
      }

  -- selections of nobody
  pub moved_keeps : (regs : Regs) (more : List Point) → Moves k.regs regs more → IsSound regs → Each (IsAtHorizons (λ name. of name k.journals)) more → Invariant (record k { regs = regs })
  moved_keeps regs more m s cuts = record {
    sorted = inv.sorted;
    sound = s;
    linked = subst Linked same (linked_notes (traces_of k) (λ name. []) more inv.linked (record {
      legal = λ name. tt;
      allowed = λ name. tt;
      none = λ name. tt;
      stairs = subst Staircase (λ x. first_is x ∷ rest_is x) (stairs_of regs s);
      selections = each_weaker (IsAtHorizons (λ name. of name k.journals)) (λ (q : Point). q.commit ≡ false) (λ q c. c.selects) more cuts;
      cuts = cuts;
    }));
    actors = each_weaker (IsKept k.regs) (IsKept regs) (λ x q. kept_later k.regs regs more m x q) k.actors inv.actors;
    durable = in_later k.regs.points regs.points more k.durable m.points inv.durable;
    flush = cut_later k.regs.points regs.points more k.flush m.points inv.flush;
  }
    where
      first_is : first_of regs.points ≡ first_of k.regs.points
      first_is = first_stays k.regs regs more inv.sound m

      rest_is : rest_of regs.points ≡ rest_of k.regs.points ++ more
      rest_is = rest_grows k.regs regs more inv.sound m

      journal : (s : EngineName) → of s k.journals ++ [] ≡ of s k.journals
      journal s = append-nil (of s k.journals)

      same : noted (traces_of k) (λ name. []) more ≡ traces_of (record k { regs = regs })
      same = λ x. record {
        catalog = k.catalog;
        rows = k.rows;
        first = sym first_is x;
        points = sym rest_is x;
        journals = λ s. journal s x;
        transactions = (traces_of k).transactions;
      }

-- ---- a cut

found_in : (x y : ℕ) (qs : List Point) (best : Option Point) (q : Point) → greatest_within x y best qs ≡ Some q → ((best ≡ Some q) ⊎ In q qs)
found_in x y [] best q e = inl e
found_in x y (p ∷ qs) best q e = ⊎_elim
    (λ (a : cond (is_within x y p) (Some p) best ≡ Some q). ⊎_elim
    (λ (t : is_within x y p ≡ true). inr (inl (some_is (sym a ∙ cond-true (is_within x y p) (Some p) best t))))
    (λ (f : is_within x y p ≡ false). inl (sym (cond-false (is_within x y p) (Some p) best f) ∙ a))
    (cases_Bool (is_within x y p)))
    (λ (a : In q qs). inr (inr a))
    (found_in x y qs (cond (is_within x y p) (Some p) best) q e)
  where
    some_is : {a b : Point} → Some a ≡ Some b → a ≡ b
    some_is g = cc

in_dropped : (n : ℕ) (qs : List Point) (q : Point) → In q (drop n qs) → In q qs
in_dropped zero qs q i = i
in_dropped (suc n) [] q i = absurd i
in_dropped (suc n) (p ∷ qs) q i = inr (in_dropped n qs q i)

-- the cut that is found is a point
pub cut_point : (k : Core) (x y : ℕ) (q : Point) → greatest_within x y None (live_of k.regs) ≡ Some q → In q k.regs.points
cut_point k x y q e = ⊎_elim (λ (a : None ≡ Some q). absurd (none_some a)) (λ (a : In q (live_of k.regs)). in_dropped (k.regs.low * k.regs.size) k.regs.points q a) (found_in x y (live_of k.regs) None q e)
  where
    none_some : None ≡ Some q → ⊥
    none_some g = cc

module _ (k : Core) (inv : Invariant k) where
  cut_taken_keeps : (x y : ℕ) (o : Option Point) → greatest_within x y None (live_of k.regs) ≡ o → Invariant (cut_taken k o).core
  cut_taken_keeps x y None e = record { sorted = inv.sorted; sound = inv.sound; linked = inv.linked; actors = inv.actors; durable = inv.durable; flush = tt }
  cut_taken_keeps x y (Some q) e = cond_both (is_greater q k.durable) _ _ (λ (n : Next). Invariant n.core)
      (λ t. record { sorted = inv.sorted; sound = inv.sound; linked = inv.linked; actors = inv.actors; durable = inv.durable; flush = cut_point k x y q e })
      (λ t. record { sorted = inv.sorted; sound = inv.sound; linked = inv.linked; actors = inv.actors; durable = inv.durable; flush = tt })

  flushed_keeps : (f : Flush) (n : ℕ) → In f.cut k.regs.points → Invariant (flushed k f n).core
  flushed_keeps f zero i = inv
  flushed_keeps f (suc zero) i = record { sorted = inv.sorted; sound = inv.sound; linked = inv.linked; actors = inv.actors; durable = i; flush = tt }
  flushed_keeps f (suc (suc n)) i = record { sorted = inv.sorted; sound = inv.sound; linked = inv.linked; actors = inv.actors; durable = inv.durable; flush = i }

  flush_keeps : (o : Option Flush) → IsCutOf k.regs.points o → Invariant (flush_step k o).core
  flush_keeps None i = inv
  flush_keeps (Some f) i = flushed_keeps f f.left i

-- the core in which a cut is looked for
abbrev pub cut_core : Core → Core
cut_core k =
    let two : Core = called (called k Mem call.Horizon) Store call.Horizon in
    record two { regs = after_cut k.regs (horizon_of (table_of k Mem)) (horizon_of (table_of k Store)) k.regs.store }

pub cut_ready : (k : Core) → Invariant k → Invariant (cut_core k)
cut_ready k inv =
    let x : ℕ = horizon_of (table_of k Mem) in
    let y : ℕ = horizon_of (table_of k Store) in
    let one : Core = called k Mem call.Horizon in
    let i1 : Invariant one = noted_keeps k inv Mem call.Horizon refl refl in
    let two : Core = called one Store call.Horizon in
    let i2 : Invariant two = noted_keeps one i1 Store call.Horizon refl refl in
    moved_keeps two i2 (after_cut k.regs x y k.regs.store) (cond (makes_cut k.regs x y k.regs.store) (selection x y ∷ []) []) (cut_moves k.regs x y k.regs.store)
    (cut_sound k.regs x y k.regs.store inv.sound (horizon_upto k inv Mem) (horizon_upto k inv Store))
    (cond_both (makes_cut k.regs x y k.regs.store) (selection x y ∷ []) [] (λ ps. Each (IsAtHorizons (λ name. of name two.journals)) ps)
    (λ t. (record { selects = refl; mem = in_append _ k.journals.mem _ (inl refl); store = in_append _ k.journals.store _ (inl refl) }, tt)) (λ t. tt))

cut_keeps : (k : Core) → Invariant k → Invariant (cut_next k).core
cut_keeps k inv = cut_taken_keeps (cut_core k) (cut_ready k inv) (horizon_of (table_of k Mem)) (horizon_of (table_of k Store)) (greatest_within (horizon_of (table_of k Mem)) (horizon_of (table_of k Store)) None (live_of (cut_core k).regs)) refl

-- ---- a run begins

pub starts_well : (catalog : List Table) (rows : Tables) (start : Point) (partitions size : ℕ) → CanStart partitions size start → AreSorted rows → Invariant (core_at catalog rows start partitions size)
starts_well catalog rows start partitions size h sorted = record {
  sorted = sorted;
  sound = start_sound partitions size start h;
  linked = record {
    legal = legal;
    allowed = allowed;
    stairs = (h.is_selection, tt);
    distinct = tt;
    unlike = λ name. tt;
    known = known;
    each = tt;
    points = tt;
    made = record { source = tt; among = tt; once = λ q t u i. absurd i };
  };
  actors = tt;
  durable = inl refl;
  flush = tt;
}
  where
    first : Core
    first = core_at catalog rows start partitions size

    legal : (name : EngineName) → Legal (first_table (run_of (traces_of first)) name) (of name first.journals)
    legal Mem = tt
    legal Store = tt

    allowed : (name : EngineName) → Allowed (first_table (run_of (traces_of first)) name) (of name first.journals)
    allowed Mem = tt
    allowed Store = tt

    known : (name : EngineName) → Each (λ (j : Entry). Known [] (tx_of j.call)) (of name first.journals)
    known Mem = tt
    known Store = tt

-- a point of the run has numbers that were drawn
pub point_drawn : (k : Core) → Invariant k → (q : Point) → In q k.regs.points → (q.a ≤ k.regs.mem) × (q.b ≤ k.regs.store)
point_drawn k inv q i =
    let here : In q (first_of k.regs.points ∷ rest_of k.regs.points) = subst (λ ps. In q ps) (whole k.regs inv.sound) i in
    ⊎_elim
    (λ (e : q ≡ first_of k.regs.points). subst (λ (p : Point). (p.a ≤ k.regs.mem) × (p.b ≤ k.regs.store)) (sym e) (first_drawn k.regs inv.sound Mem, first_drawn k.regs inv.sound Store))
    (λ (e : In q (rest_of k.regs.points)). each_in (λ (q : Point). (q.a ≤ k.regs.mem) × (q.b ≤ k.regs.store)) (rest_of k.regs.points) q (points_drawn k.regs inv.sound) e)
    here

pub reopens_well : (k : Core) → Invariant k → Invariant (reopened k)
reopens_well k inv =
    let drawn : (k.durable.a ≤ k.regs.mem) × (k.durable.b ≤ k.regs.store) = point_drawn k inv k.durable inv.durable in
    let a : k.durable.a ≤ k.regs.mem = drawn.0 in
    let b : k.durable.b ≤ k.regs.store = drawn.1 in
    let m : k.regs.mem ≤ 2147483647 = inv.sound.mem in
    let s : k.regs.store ≤ 2147483647 = inv.sound.store in
    starts_well k.catalog (durable_rows k) (opening_cut k) k.regs.partitions k.regs.size
    (record { partitions = inv.sound.partitions; size = inv.sound.size; is_selection = refl; small = record { a = omega (arith, a, m); b = omega (arith, b, s) } })
    (subst AreSorted (sym (state_is k.rows (take (durable_place k) (commits_of k)))) (sorted_after_writes k.rows (flat_map (λ (c : Commit). c.writes) (take (durable_place k) (commits_of k))) inv.sorted))

-- ---- all events

module _ (k : Core) (inv : Invariant k) where
  label_keeps : (tx : Label) (e : Event) → (actor_in tx k.actors ≡ None → Keeps k e (plan_new k e)) → Invariant (for_label k tx e).core
  label_keeps tx e new = taken_keeps k e (plan_with k (actor_in tx k.actors) e) inv (found (actor_in tx k.actors) refl)
    where
      found : (o : Option Actor) → actor_in tx k.actors ≡ o → Keeps k e (plan_with k o e)
      found None q = new q
      found (Some r) q = plan_keeps k inv r (actor_found tx k.actors r q).0 e

  live_keeps : (e : Event) → Invariant (live_step k e).core
  live_keeps (event.Begin tx kind) = label_keeps tx (event.Begin tx kind) (λ q. keeps_when k (event.Begin tx kind) (is_next tx k.actors) _ (λ y. begin_keeps k inv tx q kind))
  live_keeps (event.Select tx) = label_keeps tx (event.Select tx) (λ q. tt)
  live_keeps (event.OpenStore tx) = label_keeps tx (event.OpenStore tx) (λ q. tt)
  live_keeps (event.Read tx t key) = label_keeps tx (event.Read tx t key) (λ q. tt)
  live_keeps (event.Put tx w) = label_keeps tx (event.Put tx w) (λ q. tt)
  live_keeps (event.Close tx name) = label_keeps tx (event.Close tx name) (λ q. tt)
  live_keeps (event.Draw tx name) = label_keeps tx (event.Draw tx name) (λ q. tt)
  live_keeps (event.Check tx) = label_keeps tx (event.Check tx) (λ q. tt)
  live_keeps (event.Stamp tx name) = label_keeps tx (event.Stamp tx name) (λ q. tt)
  live_keeps (event.Leave tx name) = label_keeps tx (event.Leave tx name) (λ q. tt)
  live_keeps event.Cut = cond_both (may_cut k.flush) (cut_next k) (not_now k) (λ (n : Next). Invariant n.core) (λ y. cut_keeps k inv) (λ y. inv)
  live_keeps event.FlushStep = flush_keeps k inv k.flush inv.flush
  live_keeps (event.Purge name) = noted_keeps k inv name (call.Purge (purge_upto k name)) refl refl
  live_keeps event.Stop = record { sorted = inv.sorted; sound = inv.sound; linked = inv.linked; actors = inv.actors; durable = inv.durable; flush = inv.flush }
  live_keeps event.Reopen = inv

  stopped_keeps : (e : Event) → Invariant (stopped_step k e).core
  stopped_keeps event.Reopen = reopens_well k inv
  stopped_keeps e = inv

  pub step_keeps : (e : Event) → Invariant (step k e).core
  step_keeps e = cond_both k.stopped (stopped_step k e) (live_step k e) (λ (n : Next). Invariant n.core) (λ y. stopped_keeps e) (λ y. live_keeps e)

pub run_keeps : (k : Core) (es : List Event) → Invariant k → Invariant (run k es)
run_keeps k [] inv = inv
run_keeps k (e ∷ es) inv = run_keeps (step k e).core es (step_keeps k inv e)
