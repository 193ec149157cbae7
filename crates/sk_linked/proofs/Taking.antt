-- The events of a transaction that took no commit step are taken where they are lawful.
use Rattle.std.specs.Prelude.{ℕ, List, [], ◌∷◌, Option, Some, None, Result, Ok, Err, Bool, true, false, cond, not, ◌&&◌, ◌≡◌, is_some, nat_lt}
use Rattle.std.specs.List.{filter, find}
use Rattle.std.proofs.Common.{refl, sym, ap, subst, ◌∙◌}
use Rattle.std.proofs.lemmas.Bool.{cond_both, false≢true, and_parts}
use Rattle.std.specs.Cmp.Derive.{both_true}
use Rattle.sk_rows.specs.declared.value.Value.{Value}
use Rattle.sk_model.specs.declared.label.Label.{Label}
use Rattle.sk_model.specs.declared.engine.EngineName.{EngineName}
use Rattle.sk_model.specs.declared.engine.EngineName.TheVariants.{Mem, Store}
use Rattle.sk_model.specs.declared.record.Ending.TheVariants as ending
use Rattle.sk_model.specs.declared.point.Recycled.{Recycled}
use Rattle.sk_model.specs.declared.commit.Write.{Write}
use Rattle.sk_model.specs.declared.call.EngineFault.{EngineFault}
use Rattle.sk_model.specs.declared.call.EngineFault.TheVariants as fault
use Rattle.sk_model.specs.declared.call.EngineCall.{EngineCall}
use Rattle.sk_model.specs.declared.call.EngineCall.TheVariants as call
use Rattle.sk_model.specs.declared.call.EngineReply.{EngineReply}
use Rattle.sk_model.specs.declared.call.EngineReply.TheVariants.{Done, Found, Rows, Fault}
use Rattle.sk_model.specs.declared.call.Entry.{Entry}
use Rattle.sk_model.specs.declared.reply.Why.TheVariants as why
use Rattle.sk_model.specs.Database.{RowOf, KeyedRows}
use Rattle.sk_model.specs.Engine.{EngineTable, Opening, opening_of, snapshot_of, write_at, is_of, is_stamped, VersionState, Open, Closed, Stamped, Dropped, Version}
use Rattle.sk_model.specs.EngineReplies.{answer_of, busy_or, is_rival, last_in, why_undecided, past_of, past_or, conflict_or}
use Rattle.sk_model.specs.EngineConditions.{may, empty_of, is_standing}
use Rattle.sk_model.specs.Legal.{step as step_entry, is_refusal}
use Rattle.sk_model.specs.Talks.{calls_in, is_by}
use Rattle.sk_weave.specs.declared.answer.Selected.{Selected}
use Rattle.sk_weave.specs.Registry.{selected}
use Rattle.sk_linked.specs.Reads.{snapshot_at, first_table}
use Rattle.sk_linked.specs.declared.event.Event.{Event}
use Rattle.sk_linked.specs.declared.event.Event.TheVariants as event
use Rattle.sk_linked.specs.declared.event.CoreReply.{CoreReply}
use Rattle.sk_linked.specs.declared.event.CoreReply.TheVariants as reply
use Rattle.sk_linked.specs.Traces.{run_of, In, Belongs}
use Rattle.sk_linked.specs.State.{of, with_of, other, Actor, transaction_of, Core, traces_of, table_of}
use Rattle.sk_linked.specs.Plans.{Plan, only, drops, ended, reads, found_rows, answer, is_running, is_over, is_cross, is_undrawn, is_free, is_opened, select_plan, selects, open_plan, opens_store, engine_of, read_call, read_plan, put_call, put_plan, may_leave, leave_plan, plan_for}
use Rattle.sk_linked.specs.Machine.{Next, not_now, taken, may_all, lets}
use Rattle.sk_linked.specs.Invariant.{IsKept, Invariant}
use Rattle.sk_linked.specs.Lawful.{is_lawful_for, is_not_now}
use Rattle.sk_model.proofs.Quiet.{put_standing}
use Rattle.sk_linked.proofs.Members.{each_in}
use Rattle.sk_linked.proofs.Projection.{none_pass_filter}
use Rattle.sk_linked.proofs.Others.{opening_others}
use Rattle.sk_linked.proofs.Applying.{in_mapped}
use Rattle.sk_linked.proofs.Ready.{IsReady}

-- what the event does is done
abbrev pub Takes : Core → Event → Option Plan → Type 0
Takes k e o = is_not_now (taken k e o).reply ≡ false

pub takes_plan : (k : Core) (e : Event) (p : Plan) → lets k p.calls ≡ true → is_not_now p.reply ≡ false → Takes k e (Some p)
takes_plan k e p y q = cond_both (lets k p.calls) _ (not_now k) (λ (n : Next). is_not_now n.reply ≡ false) (λ t. q) (λ f. absurd (false≢true (sym f ∙ y)))

pub takes_when : (k : Core) (e : Event) (b : Bool) (o : Option Plan) → b ≡ true → Takes k e o → Takes k e (cond b o None)
takes_when k e b o y q = cond_both b o None (λ (x : Option Plan). Takes k e x) (λ t. q) (λ f. absurd (false≢true (sym f ∙ y)))

-- what is dropped may be dropped
pub drops_let : (k : Core) (r : Actor) (name : EngineName) → may_all (table_of k name) (drops k r name) ≡ true
drops_let k r name = cond_both (is_some (opening_of (table_of k name) r.label)) (call.DropTx r.label ∷ []) [] (λ cs. may_all (table_of k name) cs ≡ true) (λ y. both_true y refl) (λ f. refl)

-- calls on one engine, and others on the other
pub lets_with : (k : Core) (name : EngineName) (cs ds : List EngineCall) → may_all (table_of k name) cs ≡ true → may_all (table_of k (other name)) ds ≡ true → lets k (with_of name cs (only (other name) ds)) ≡ true
lets_with k Mem cs ds a b = both_true a b
lets_with k Store cs ds a b = both_true b a

pub lets_only : (k : Core) (name : EngineName) (cs : List EngineCall) → may_all (table_of k name) cs ≡ true → lets k (only name cs) ≡ true
lets_only k Mem cs a = both_true a refl
lets_only k Store cs a = both_true refl a

standing_some : (o : Option Opening) → is_standing o ≡ true → is_some o ≡ true
standing_some None y = y
standing_some (Some o) y = refl

-- a refused call leaves the table
refused_stays : (e : EngineTable) (j : Entry) → is_refusal j.reply ≡ true → step_entry e j ≡ e
refused_stays e j y = cond_both (may e j.call && not (is_refusal j.reply)) _ e (λ x. x ≡ e) (λ t. absurd (false≢true (ap not (sym y) ∙ (and_parts (may e j.call) (not (is_refusal j.reply)) t).1))) (λ f. refl)

module _ (k : Core) (inv : Invariant k) (r : Actor) (among : In r k.actors) (h : IsReady r) where
  kept : IsKept k.regs r
  kept = each_in (IsKept k.regs) k.actors r inv.actors among

  belongs : Belongs (traces_of k) (transaction_of r)
  belongs = each_in (Belongs (traces_of k)) (traces_of k).transactions (transaction_of r) inv.linked.each (in_mapped r k.actors among)

  -- who made no call on an engine has not opened it
  pub no_opening : (name : EngineName) → calls_in name r.talk ≡ [] → opening_of (table_of k name) r.label ≡ None
  no_opening name e = opening_others r.label (first_table (run_of (traces_of k)) name) (of name k.journals) (none_pass_filter (is_by r.label) (of name k.journals) (belongs.entries name ∙ e))

  unopened : (name : EngineName) → is_running r.stage ≡ true → snapshot_at name r.opened ≡ None → opening_of (table_of k name) r.label ≡ None
  unopened Mem y o = no_opening Mem (h.unopened y o)
  unopened Store y o = no_opening Store (kept.unopened y o)

  opened_if : (name : EngineName) → is_running r.stage ≡ true → is_some (opening_of (table_of k name) r.label) ≡ true → is_opened r name ≡ true
  opened_if name y s = go (snapshot_at name r.opened) refl
    where
      go : (o : Option ℕ) → snapshot_at name r.opened ≡ o → is_some (snapshot_at name r.opened) ≡ true
      go None e = absurd (false≢true (ap (λ (x : Option Opening). is_some x) (sym (unopened name y e)) ∙ s))
      go (Some n) e = ap (λ (x : Option ℕ). is_some x) e

  free : is_running r.stage ≡ true → is_free r ≡ true
  free y = both_true y (h.untouched y)

  select_takes : (tx : Label) → is_cross r.kind ≡ true → (m c : Option ℕ) → r.opened.mem ≡ m → c ≡ r.chosen → not (is_some r.chosen) ≡ true → Takes k (event.Select tx) (selects k r m c)
  select_takes tx y None c e q f = absurd (false≢true (ap (λ (x : Option ℕ). is_some x) (sym e) ∙ h.anchored y))
  select_takes tx y (Some a) (Some b) e q f = absurd (false≢true (ap (λ (x : Option ℕ). not (is_some x)) q ∙ f))
  select_takes tx y (Some a) None e q f = go (selected k.regs a k.regs.store)
    where
      go : (x : Result Selected Recycled) → Takes k (event.Select tx) (Some (select_plan k r a x))
      go (Ok s) = takes_plan k (event.Select tx) (select_plan k r a (Ok s)) refl refl
      go (Err q) = takes_plan k (event.Select tx) (select_plan k r a (Err q)) (lets_only k Mem (drops k r Mem) (drops_let k r Mem)) refl

  open_takes : (tx : Label) → is_running r.stage ≡ true → (c s : Option ℕ) → c ≡ r.chosen → s ≡ r.opened.store → is_some r.chosen ≡ true → not (is_some r.opened.store) ≡ true → Takes k (event.OpenStore tx) (opens_store k r c s)
  open_takes tx y None s e q f g = absurd (false≢true (ap (λ (x : Option ℕ). is_some x) e ∙ f))
  open_takes tx y (Some b) (Some s) e q f g = absurd (false≢true (ap (λ (x : Option ℕ). not (is_some x)) q ∙ g))
  open_takes tx y (Some b) None e q f g = cond_both (may (table_of k Store) (call.Open r.label b)) (answer_of (table_of k Store) (call.Open r.label b)) (empty_of (call.Open r.label b)) (λ a. Takes k (event.OpenStore tx) (open_plan k r b a))
      (λ t. cond_both (nat_lt b (table_of k Store).purged) (Fault (fault.Old b (table_of k Store).purged)) Done (λ a. Takes k (event.OpenStore tx) (open_plan k r b a)) (λ u. old (fault.Old b (table_of k Store).purged)) (λ u. done))
      (λ t. done)
    where
      may_open : may (table_of k Store) (call.Open r.label b) ≡ true
      may_open = ap (λ (x : Option Opening). not (is_some x)) (unopened Store y (sym q))

      done : Takes k (event.OpenStore tx) (open_plan k r b Done)
      done = takes_plan k (event.OpenStore tx) (record { reply = reply.Done; calls = only Store (call.Open r.label b ∷ []); regs = k.regs; who = record r { opened = record r.opened { store = Some b } } })
          (lets_only k Store (call.Open r.label b ∷ []) (both_true may_open refl)) refl

      old : (f : EngineFault) → Takes k (event.OpenStore tx) (open_plan k r b (Fault f))
      old f = takes_plan k (event.OpenStore tx) (record { reply = reply.Refused f; calls = record { mem = drops k r Mem; store = call.Open r.label b ∷ [] }; regs = k.regs; who = ended ending.Old r })
          (both_true (drops_let k r Mem) (both_true may_open refl)) refl

  reads_take : (e : Event) (name : EngineName) (c : EngineCall) (said : CoreReply) → is_not_now said ≡ false → may (table_of k name) c ≡ true → Takes k e (Some (reads r k name c said))
  reads_take e name c said q m = takes_plan k e (reads r k name c said) (lets_only k name (c ∷ []) (both_true m refl)) q

  busy_takes : (e : Event) (name : EngineName) (key : Option Value) (c : EngineCall) (row : Option RowOf) (o : Option Version) → may (table_of k name) c ≡ true → Takes k e (read_plan k r name key c (busy_or o (Found row)))
  busy_takes e name key c row None m = reads_take e name c (reply.Rows (found_rows key row)) refl m
  busy_takes e name key c row (Some v) m = reads_take e name c (reply.Refused (fault.Busy v.by)) refl m

  busy_scans : (e : Event) (name : EngineName) (key : Option Value) (c : EngineCall) (rows : KeyedRows) (o : Option Version) → may (table_of k name) c ≡ true → Takes k e (read_plan k r name key c (busy_or o (Rows rows)))
  busy_scans e name key c rows None m = reads_take e name c (reply.Rows rows) refl m
  busy_scans e name key c rows (Some v) m = reads_take e name c (reply.Refused (fault.Busy v.by)) refl m

  read_takes : (e : Event) (name : EngineName) (t : ℕ) (key : Option Value) → may (table_of k name) (read_call r.label t key) ≡ true → Takes k e (read_plan k r name key (read_call r.label t key) (answer k name (read_call r.label t key)))
  read_takes e name t (Some v) m = cond_both (may (table_of k name) (call.Get r.label t v)) (answer_of (table_of k name) (call.Get r.label t v)) (empty_of (call.Get r.label t v)) (λ a. Takes k e (read_plan k r name (Some v) (call.Get r.label t v) a))
      (λ y. busy_takes e name (Some v) (call.Get r.label t v) _ _ m) (λ f. absurd (false≢true (sym f ∙ m)))
  read_takes e name t None m = cond_both (may (table_of k name) (call.Scan r.label t)) (answer_of (table_of k name) (call.Scan r.label t)) (empty_of (call.Scan r.label t)) (λ a. Takes k e (read_plan k r name None (call.Scan r.label t) a))
      (λ y. busy_scans e name None (call.Scan r.label t) _ _ m) (λ f. absurd (false≢true (sym f ∙ m)))

  -- a write that is lawful, by its answer
  abbrev Answers : Event → EngineName → Write → EngineReply → Type 0
  Answers e name w a = answer k name (put_call r.label w) ≡ a → Takes k e (put_plan k r name w a)

  put_done : (e : Event) (name : EngineName) (w : Write) → may (table_of k name) (put_call r.label w) ≡ true → Answers e name w Done
  put_done e name w m q = takes_plan k e (record { reply = reply.Done; calls = only name (put_call r.label w ∷ []); regs = k.regs; who = record r { wrote = with_of name true r.wrote } })
      (lets_only k name (put_call r.label w ∷ []) (both_true m refl)) refl

  put_fault : (e : Event) (name : EngineName) (w : Write) (f : EngineFault) → may (table_of k name) (put_call r.label w) ≡ true → Answers e name w (Fault f)
  put_fault e name w f m q = takes_plan k e (record {
    reply = reply.Refused f;
    calls = with_of name (put_call r.label w ∷ call.DropTx r.label ∷ []) (only (other name) (drops k r (other name)));
    regs = k.regs;
    who = ended ending.Conflict r;
  }) (lets_with k name (put_call r.label w ∷ call.DropTx r.label ∷ []) (drops k r (other name)) (both_true m (both_true there refl)) (drops_let k r (other name))) refl
    where
      there : may (step_entry (table_of k name) (record { call = put_call r.label w; reply = answer k name (put_call r.label w) })) (call.DropTx r.label) ≡ true
      there = subst (λ (x : EngineTable). may x (call.DropTx r.label) ≡ true) (sym (refused_stays (table_of k name) (record { call = put_call r.label w; reply = answer k name (put_call r.label w) }) (ap is_refusal q)))
          (standing_some (opening_of (table_of k name) r.label) (put_standing (table_of k name) r.label w.table w.key w.row m))

  past_takes : (e : Event) (name : EngineName) (w : Write) (s : ℕ) (by : Label) (st : VersionState) → may (table_of k name) (put_call r.label w) ≡ true → Answers e name w (past_of s by st)
  past_takes e name w s by Open m = put_done e name w m
  past_takes e name w s by (Closed f) m = put_done e name w m
  past_takes e name w s by (Stamped n) m = cond_both (nat_lt s n) (Fault (fault.Conflict by (why.Past n s))) Done (Answers e name w) (λ y. put_fault e name w (fault.Conflict by (why.Past n s)) m) (λ f. put_done e name w m)
  past_takes e name w s by Dropped m = put_done e name w m

  put_says : (e : Event) (name : EngineName) (w : Write) (s : ℕ) (o p : Option Version) → may (table_of k name) (put_call r.label w) ≡ true → Answers e name w (conflict_or o (past_or s p))
  put_says e name w s (Some v) p m = put_fault e name w (fault.Conflict v.by (why_undecided v.standing)) m
  put_says e name w s None None m = put_done e name w m
  put_says e name w s None (Some v) m = past_takes e name w s v.by v.standing m

  put_takes : (e : Event) (name : EngineName) (w : Write) → may (table_of k name) (put_call r.label w) ≡ true → Takes k e (put_plan k r name w (answer k name (put_call r.label w)))
  put_takes e name w m = cond_both (may (table_of k name) (put_call r.label w)) (answer_of (table_of k name) (put_call r.label w)) (empty_of (put_call r.label w)) (Answers e name w)
      (λ y. put_says e name w (snapshot_of (table_of k name) r.label) (find (is_rival r.label (write_at w.table w.key w.row)) (table_of k name).versions)
      (last_in None (filter (λ v. is_of w.table w.key v && is_stamped v.standing) (table_of k name).versions)) m)
      (λ f. absurd (false≢true (sym f ∙ m))) refl

  read_standing : (name : EngineName) (t : ℕ) (key : Option Value) → may (table_of k name) (read_call r.label t key) ≡ true → is_standing (opening_of (table_of k name) r.label) ≡ true
  read_standing name t (Some v) m = (and_parts (is_standing (opening_of (table_of k name) r.label)) _ m).0
  read_standing name t None m = (and_parts (is_standing (opening_of (table_of k name) r.label)) _ m).0

  pub take_select : (tx : Label) → is_lawful_for k r (event.Select tx) ≡ true → Takes k (event.Select tx) (plan_for k r (event.Select tx))
  take_select tx y =
      let parts : (is_running r.stage ≡ true) × ((is_cross r.kind && not (is_some r.chosen)) ≡ true) = and_parts (is_running r.stage) (is_cross r.kind && not (is_some r.chosen)) y in
      let more : (is_cross r.kind ≡ true) × (not (is_some r.chosen) ≡ true) = and_parts (is_cross r.kind) (not (is_some r.chosen)) parts.1 in
      takes_when k (event.Select tx) (is_free r && is_cross r.kind) _ (both_true (free parts.0) more.0) (select_takes tx more.0 r.opened.mem r.chosen refl refl more.1)

  pub take_open : (tx : Label) → is_lawful_for k r (event.OpenStore tx) ≡ true → Takes k (event.OpenStore tx) (plan_for k r (event.OpenStore tx))
  take_open tx y =
      let parts : (is_running r.stage ≡ true) × ((is_some r.chosen && not (is_some r.opened.store)) ≡ true) = and_parts (is_running r.stage) (is_some r.chosen && not (is_some r.opened.store)) y in
      let more : (is_some r.chosen ≡ true) × (not (is_some r.opened.store) ≡ true) = and_parts (is_some r.chosen) (not (is_some r.opened.store)) parts.1 in
      takes_when k (event.OpenStore tx) (is_free r) _ (free parts.0) (open_takes tx parts.0 r.chosen r.opened.store refl refl more.0 more.1)

  pub take_read : (tx : Label) (t : ℕ) (key : Option Value) → is_lawful_for k r (event.Read tx t key) ≡ true → Takes k (event.Read tx t key) (plan_for k r (event.Read tx t key))
  take_read tx t key y =
      let parts : (is_running r.stage ≡ true) × (may (table_of k (engine_of k t)) (read_call r.label t key) ≡ true) = and_parts (is_running r.stage) (may (table_of k (engine_of k t)) (read_call r.label t key)) y in
      takes_when k (event.Read tx t key) (is_free r && is_opened r (engine_of k t)) _
      (both_true (free parts.0) (opened_if (engine_of k t) parts.0 (standing_some _ (read_standing (engine_of k t) t key parts.1))))
      (read_takes (event.Read tx t key) (engine_of k t) t key parts.1)

  pub take_put : (tx : Label) (w : Write) → is_lawful_for k r (event.Put tx w) ≡ true → Takes k (event.Put tx w) (plan_for k r (event.Put tx w))
  take_put tx w y =
      let parts : (is_running r.stage ≡ true) × (may (table_of k (engine_of k w.table)) (put_call r.label w) ≡ true) = and_parts (is_running r.stage) (may (table_of k (engine_of k w.table)) (put_call r.label w)) y in
      takes_when k (event.Put tx w) (is_free r && is_opened r (engine_of k w.table)) _
      (both_true (free parts.0) (opened_if (engine_of k w.table) parts.0 (standing_some _ (put_standing (table_of k (engine_of k w.table)) r.label w.table w.key w.row parts.1))))
      (put_takes (event.Put tx w) (engine_of k w.table) w parts.1)

  pub take_leave : (tx : Label) (name : EngineName) → is_lawful_for k r (event.Leave tx name) ≡ true → Takes k (event.Leave tx name) (plan_for k r (event.Leave tx name))
  take_leave tx name y =
      let parts : ((not (is_over r.stage) && is_undrawn r) ≡ true) × (is_some (opening_of (table_of k name) r.label) ≡ true) = and_parts (not (is_over r.stage) && is_undrawn r) (is_some (opening_of (table_of k name) r.label)) y in
      takes_when k (event.Leave tx name) (may_leave r) _ parts.0 (takes_plan k (event.Leave tx name) (leave_plan k r name) (lets_only k name (call.DropTx r.label ∷ []) (both_true parts.1 refl)) refl)
