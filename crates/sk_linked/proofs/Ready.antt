-- What a transaction that took no commit step has opened, and how far a flush has come.
use Rattle.std.specs.Prelude.{ℕ, zero, suc, List, [], ◌∷◌, ◌++◌, Option, Some, None, Result, Ok, Err, Bool, true, false, cond, ◌&&◌, ◌≡◌, ◌≤◌, is_some}
use Rattle.std.proofs.Common.{refl, sym, ap, ◌∙◌, arith}
use Rattle.std.proofs.lemmas.Bool.{cond_both, false≢true, and_parts}
use Rattle.sk_rows.specs.declared.value.Value.{Value}
use Rattle.sk_model.specs.declared.label.Label.{Label}
use Rattle.sk_model.specs.declared.engine.EngineName.{EngineName}
use Rattle.sk_model.specs.declared.engine.EngineName.TheVariants.{Mem, Store}
use Rattle.sk_model.specs.declared.record.TxKind.{TxKind}
use Rattle.sk_model.specs.declared.record.TxKind.TheVariants as kind
use Rattle.sk_model.specs.declared.point.Point.{Point}
use Rattle.sk_model.specs.declared.point.Recycled.{Recycled}
use Rattle.sk_model.specs.declared.step.StepName.{StepName}
use Rattle.sk_model.specs.declared.commit.Write.{Write}
use Rattle.sk_model.specs.declared.call.EngineCall.{EngineCall}
use Rattle.sk_model.specs.declared.call.EngineCall.TheVariants as call
use Rattle.sk_model.specs.declared.call.EngineReply.{EngineReply}
use Rattle.sk_model.specs.declared.call.EngineReply.TheVariants.{Done, Found, Rows, Number, Commits, Fault}
use Rattle.sk_model.specs.declared.call.Entry.{Entry}
use Rattle.sk_model.specs.EngineReplies.{horizon_of}
use Rattle.sk_model.specs.Talks.{calls_in}
use Rattle.sk_model.proofs.Lists.{Each, each_weaker}
use Rattle.sk_weave.specs.declared.answer.Selected.{Selected}
use Rattle.sk_weave.specs.declared.answer.DrawFault.{DrawFault}
use Rattle.sk_weave.specs.declared.answer.DrawFault.TheVariants.{Spent, Early}
use Rattle.sk_weave.specs.Registry.{live_of, selected, drawn, passes, greatest_within}
use Rattle.sk_linked.specs.declared.event.Event.{Event}
use Rattle.sk_linked.specs.declared.event.Event.TheVariants as event
use Rattle.sk_linked.specs.State.{of, Actor, Flush, Core, core_at, table_of, counter}
use Rattle.sk_linked.specs.Plans.{Plan, only, answer, is_running, is_cross, is_untouched, is_free, is_opened, select_plan, selects, open_plan, opens_store, engine_of, read_call, read_plan, put_call, put_plan, behind, todo, close_plan, draw_plan, floor_in, checks, stage_behind, may_close, may_draw, may_check, may_stamp_now, may_leave, may_stamp_in, stamps, stamp_plan, stage_left, plan_for, actor_in, is_next, begin_mem, begin_plan, plan_new, plan_with}
use Rattle.sk_linked.specs.Machine.{entered, calls_on, recorded, Next, not_now, taken, lets, for_label, is_greater, cut_taken, cut_next, may_cut, flushed, flush_step, live_step, stopped_step, step, run}
use Rattle.sk_linked.specs.Invariant.{Invariant}
use Rattle.sk_linked.specs.Runs.{Start, ran}
use Rattle.sk_linked.proofs.Going.{calls_more}
use Rattle.sk_linked.proofs.Members.{each_in, some_clash}
use Rattle.sk_linked.proofs.Applying.{Other, each_put_actor, mem_on_store}
use Rattle.sk_linked.proofs.Stepping.{actor_found, cut_core, starts_well, step_keeps}

pub record IsReady (r : Actor) : Type 0 where
  pub untouched : is_running r.stage ≡ true → is_untouched r ≡ true
  pub anchored : is_cross r.kind ≡ true → is_some r.opened.mem ≡ true
  pub unopened : is_running r.stage ≡ true → r.opened.mem ≡ None → calls_in Mem r.talk ≡ []

-- a flush in progress has a call left
abbrev pub HasLeft : Option Flush → Type 0
HasLeft None = Unit {0}
HasLeft (Some f) = 1 ≤ f.left

pub record Readied (k : Core) : Type 0 where
  pub actors : Each IsReady k.actors
  pub flush : HasLeft k.flush

-- what a plan leaves of the transaction
abbrev Readies : Core → Event → Option Plan → Type 0
Readies k e None = Unit {0}
Readies k e (Some p) = IsReady (recorded k e p)

ready_when : (k : Core) (e : Event) (b : Bool) (o : Option Plan) → (b ≡ true → Readies k e o) → Readies k e (cond b o None)
ready_when k e b o h = cond_both b o None (λ (x : Option Plan). Readies k e x) h (λ f. tt)

taken_ready : (k : Core) (e : Event) (o : Option Plan) → Invariant k → Readied k → Readies k e o → Readied (taken k e o).core
taken_ready k e None inv h q = h
taken_ready k e (Some p) inv h q = cond_both (lets k p.calls) _ (not_now k) (λ (n : Next). Readied n.core)
    (λ y. record { actors = each_put_actor IsReady (recorded k e p) k.actors q (each_weaker IsReady (Other IsReady (recorded k e p)) (λ x i f. i) k.actors h.actors) inv.linked.distinct; flush = h.flush })
    (λ f. h)

-- a transaction that runs no longer
stopped_is : (x : Actor) → is_running x.stage ≡ false → (is_cross x.kind ≡ true → is_some x.opened.mem ≡ true) → IsReady x
stopped_is x f a = record { untouched = λ y. absurd (false≢true (sym f ∙ y)); anchored = a; unopened = λ y o. absurd (false≢true (sym f ∙ y)) }

stage_behind_is : (steps : List StepName) → is_running (stage_behind steps) ≡ false
stage_behind_is [] = refl
stage_behind_is (x ∷ xs) = refl

stage_left_is : (b : Bool) → is_running (stage_left b) ≡ false
stage_left_is true = refl
stage_left_is false = refl

module _ (k : Core) (r : Actor) (h : IsReady r) where
  runs_on : (x : Actor) → x.stage ≡ r.stage → is_untouched x ≡ is_untouched r → x.kind ≡ r.kind → x.opened.mem ≡ r.opened.mem → (calls_in Mem r.talk ≡ [] → r.opened.mem ≡ None → calls_in Mem x.talk ≡ []) → IsReady x
  runs_on x s u c m q = record {
    untouched = λ y. u ∙ h.untouched (ap is_running (sym s) ∙ y);
    anchored = λ y. ap (λ (o : Option ℕ). is_some o) m ∙ h.anchored (ap is_cross (sym c) ∙ y);
    unopened = λ y o. q (h.unopened (ap is_running (sym s) ∙ y) (sym m ∙ o)) (sym m ∙ o);
  }

  store_only : (js : List Entry) → calls_in Mem r.talk ≡ [] → calls_in Mem (r.talk ++ calls_on Store js) ≡ []
  store_only js e = calls_more Mem r.talk (calls_on Store js) ∙ ap (λ xs. xs ++ calls_in Mem (calls_on Store js)) e ∙ mem_on_store js

  one_call : (name : EngineName) (c : EngineCall) → is_opened r name ≡ true → calls_in Mem r.talk ≡ [] → r.opened.mem ≡ None
      → calls_in Mem (r.talk ++ (calls_on Mem (entered (table_of k Mem) (of Mem (only name (c ∷ [])))) ++ calls_on Store (entered (table_of k Store) (of Store (only name (c ∷ [])))))) ≡ []
  one_call Mem c y e o = absurd (false≢true (sym (ap (λ (x : Option ℕ). is_some x) o) ∙ y))
  one_call Store c y e o = store_only (entered (table_of k Store) (c ∷ [])) e

  select_ready : (tx : Label) (m c : Option ℕ) → Readies k (event.Select tx) (selects k r m c)
  select_ready tx (Some a) None = go (selected k.regs a k.regs.store)
    where
      go : (x : Result Selected Recycled) → Readies k (event.Select tx) (Some (select_plan k r a x))
      go (Ok s) = runs_on _ refl refl refl refl (λ e o. store_only [] e)
      go (Err q) = stopped_is _ refl h.anchored
  select_ready tx (Some a) (Some b) = tt
  select_ready tx None c = tt

  open_ready : (tx : Label) (c s : Option ℕ) → Readies k (event.OpenStore tx) (opens_store k r c s)
  open_ready tx (Some b) None = go (answer k Store (call.Open r.label b))
    where
      go : (a : EngineReply) → Readies k (event.OpenStore tx) (open_plan k r b a)
      go Done = runs_on _ refl refl refl refl (λ e o. store_only (entered (table_of k Store) (call.Open r.label b ∷ [])) e)
      go (Fault f) = stopped_is _ refl h.anchored
      go (Found row) = tt
      go (Rows rows) = tt
      go (Number n) = tt
      go (Commits cs) = tt
  open_ready tx (Some b) (Some s) = tt
  open_ready tx None s = tt

  read_ready : (e : Event) (name : EngineName) (key : Option Value) (c : EngineCall) (a : EngineReply) → is_opened r name ≡ true → Readies k e (read_plan k r name key c a)
  read_ready e name key c (Found row) y = runs_on _ refl refl refl refl (one_call name c y)
  read_ready e name key c (Rows rows) y = runs_on _ refl refl refl refl (one_call name c y)
  read_ready e name key c (Fault f) y = runs_on _ refl refl refl refl (one_call name c y)
  read_ready e name key c Done y = tt
  read_ready e name key c (Number n) y = tt
  read_ready e name key c (Commits cs) y = tt

  put_ready : (e : Event) (name : EngineName) (w : Write) (a : EngineReply) → is_opened r name ≡ true → Readies k e (put_plan k r name w a)
  put_ready e name w Done y = runs_on _ refl refl refl refl (one_call name (put_call r.label w) y)
  put_ready e name w (Fault f) y = stopped_is _ refl h.anchored
  put_ready e name w (Found row) y = tt
  put_ready e name w (Rows rows) y = tt
  put_ready e name w (Number n) y = tt
  put_ready e name w (Commits cs) y = tt

  close_ready : (e : Event) (name : EngineName) (a : EngineReply) → Readies k e (close_plan k r name a)
  close_ready e name (Number floor) = stopped_is _ refl h.anchored
  close_ready e name Done = tt
  close_ready e name (Found row) = tt
  close_ready e name (Rows rows) = tt
  close_ready e name (Commits cs) = tt
  close_ready e name (Fault f) = tt

  draw_ready : (e : Event) (name : EngineName) (x : Result ℕ DrawFault) → Readies k e (draw_plan k r name x)
  draw_ready e name (Ok n) = stopped_is _ refl h.anchored
  draw_ready e name (Err Spent) = stopped_is _ refl h.anchored
  draw_ready e name (Err (Early floor counter)) = tt

  check_ready : (e : Event) (m s : Option ℕ) → Readies k e (checks k r m s)
  check_ready e (Some ca) (Some cb) = cond_both (passes k.regs ca cb) _ _ (λ (p : Plan). Readies k e (Some p)) (λ y. stopped_is _ refl h.anchored) (λ f. stopped_is _ refl h.anchored)
  check_ready e (Some ca) None = tt
  check_ready e None s = tt

  stamp_ready : (e : Event) (name : EngineName) (o : Option ℕ) → Readies k e (stamps k r name o)
  stamp_ready e name None = tt
  stamp_ready e name (Some n) = ready_when k e (may_stamp_in r name) (Some (stamp_plan k r name n)) (λ y. stopped_is _ (stage_behind_is (behind (todo r))) h.anchored)

  plan_ready : (e : Event) → Readies k e (plan_for k r e)
  plan_ready (event.Begin tx kind) = tt
  plan_ready (event.Select tx) = ready_when k (event.Select tx) (is_free r && is_cross r.kind) _ (λ y. select_ready tx r.opened.mem r.chosen)
  plan_ready (event.OpenStore tx) = ready_when k (event.OpenStore tx) (is_free r) _ (λ y. open_ready tx r.chosen r.opened.store)
  plan_ready (event.Read tx t key) = ready_when k (event.Read tx t key) (is_free r && is_opened r (engine_of k t)) _
      (λ y. read_ready (event.Read tx t key) (engine_of k t) key (read_call r.label t key) (answer k (engine_of k t) (read_call r.label t key)) (and_parts (is_free r) (is_opened r (engine_of k t)) y).1)
  plan_ready (event.Put tx w) = ready_when k (event.Put tx w) (is_free r && is_opened r (engine_of k w.table)) _
      (λ y. put_ready (event.Put tx w) (engine_of k w.table) w (answer k (engine_of k w.table) (put_call r.label w)) (and_parts (is_free r) (is_opened r (engine_of k w.table)) y).1)
  plan_ready (event.Close tx name) = ready_when k (event.Close tx name) (may_close r name) _ (λ y. close_ready (event.Close tx name) name (answer k name (call.Close r.label)))
  plan_ready (event.Draw tx name) = ready_when k (event.Draw tx name) (may_draw r name) _ (λ y. draw_ready (event.Draw tx name) name (drawn (counter name k.regs) (floor_in k r name)))
  plan_ready (event.Check tx) = ready_when k (event.Check tx) (may_check r) _ (λ y. check_ready (event.Check tx) r.drew.mem r.drew.store)
  plan_ready (event.Stamp tx name) = ready_when k (event.Stamp tx name) (may_stamp_now r name) _ (λ y. stamp_ready (event.Stamp tx name) name _)
  plan_ready (event.Leave tx name) = ready_when k (event.Leave tx name) (may_leave r) _ (λ y. stopped_is _ (stage_left_is _) h.anchored)
  plan_ready event.Cut = tt
  plan_ready event.FlushStep = tt
  plan_ready (event.Purge name) = tt
  plan_ready event.Stop = tt
  plan_ready event.Reopen = tt

module _ (k : Core) where
  begin_ready : (tx : Label) (kind : TxKind) → Readies k (event.Begin tx kind) (begin_plan k tx kind)
  begin_ready tx kind.Cross = go (answer k Mem (call.Open tx k.regs.mem))
    where
      go : (a : EngineReply) → Readies k (event.Begin tx kind.Cross) (begin_mem k tx kind.Cross a)
      go Done = record { untouched = λ y. refl; anchored = λ y. refl; unopened = λ y o. some_clash o }
      go (Fault f) = tt
      go (Found row) = tt
      go (Rows rows) = tt
      go (Number n) = tt
      go (Commits cs) = tt
  begin_ready tx kind.Mem = go (answer k Mem (call.Open tx k.regs.mem))
    where
      go : (a : EngineReply) → Readies k (event.Begin tx kind.Mem) (begin_mem k tx kind.Mem a)
      go Done = record { untouched = λ y. refl; anchored = λ y. refl; unopened = λ y o. some_clash o }
      go (Fault f) = tt
      go (Found row) = tt
      go (Rows rows) = tt
      go (Number n) = tt
      go (Commits cs) = tt
  begin_ready tx kind.Store = record { untouched = λ y. refl; anchored = λ y. absurd (false≢true y); unopened = λ y o. refl }

module _ (k : Core) (inv : Invariant k) (h : Readied k) where
  label_ready : (tx : Label) (e : Event) → Readies k e (plan_new k e) → Readied (for_label k tx e).core
  label_ready tx e new = taken_ready k e (plan_with k (actor_in tx k.actors) e) inv h (found (actor_in tx k.actors) refl)
    where
      found : (o : Option Actor) → actor_in tx k.actors ≡ o → Readies k e (plan_with k o e)
      found None q = new
      found (Some r) q = plan_ready k r (each_in IsReady k.actors r h.actors (actor_found tx k.actors r q).0) e

  many : (b : Bool) → 1 ≤ cond b 6 4
  many true = omega arith
  many false = omega arith

  flushed_ready : (f : Flush) (n : ℕ) → Readied (flushed k f n).core
  flushed_ready f zero = h
  flushed_ready f (suc zero) = record { actors = h.actors; flush = tt }
  flushed_ready f (suc (suc n)) = record { actors = h.actors; flush = omega arith }

  flush_ready : (o : Option Flush) → Readied (flush_step k o).core
  flush_ready None = h
  flush_ready (Some f) = flushed_ready f f.left

  cut_ready : (j : Core) → Each IsReady j.actors → (o : Option Point) → Readied (cut_taken j o).core
  cut_ready j a None = record { actors = a; flush = tt }
  cut_ready j a (Some q) = cond_both (is_greater q j.durable) _ _ (λ (n : Next). Readied n.core) (λ y. record { actors = a; flush = many _ }) (λ f. record { actors = a; flush = tt })

  live_ready : (e : Event) → Readied (live_step k e).core
  live_ready (event.Begin tx kind) = label_ready tx (event.Begin tx kind) (ready_when k (event.Begin tx kind) (is_next tx k.actors) _ (λ y. begin_ready k tx kind))
  live_ready (event.Select tx) = label_ready tx (event.Select tx) tt
  live_ready (event.OpenStore tx) = label_ready tx (event.OpenStore tx) tt
  live_ready (event.Read tx t key) = label_ready tx (event.Read tx t key) tt
  live_ready (event.Put tx w) = label_ready tx (event.Put tx w) tt
  live_ready (event.Close tx name) = label_ready tx (event.Close tx name) tt
  live_ready (event.Draw tx name) = label_ready tx (event.Draw tx name) tt
  live_ready (event.Check tx) = label_ready tx (event.Check tx) tt
  live_ready (event.Stamp tx name) = label_ready tx (event.Stamp tx name) tt
  live_ready (event.Leave tx name) = label_ready tx (event.Leave tx name) tt
  live_ready event.Cut = cond_both (may_cut k.flush) (cut_next k) (not_now k) (λ (n : Next). Readied n.core)
      (λ y. cut_ready (cut_core k) h.actors (greatest_within (horizon_of (table_of k Mem)) (horizon_of (table_of k Store)) None (live_of (cut_core k).regs))) (λ y. h)
  live_ready event.FlushStep = flush_ready k.flush
  live_ready (event.Purge name) = record { actors = h.actors; flush = h.flush }
  live_ready event.Stop = record { actors = h.actors; flush = h.flush }
  live_ready event.Reopen = h

  stopped_ready : (e : Event) → Readied (stopped_step k e).core
  stopped_ready event.Reopen = record { actors = tt; flush = tt }
  stopped_ready e = h

  pub step_ready : (e : Event) → Readied (step k e).core
  step_ready e = cond_both k.stopped (stopped_step k e) (live_step k e) (λ (n : Next). Readied n.core) (λ y. stopped_ready e) (λ y. live_ready e)

run_ready : (k : Core) (es : List Event) → Invariant k → Readied k → Readied (run k es)
run_ready k [] inv h = h
run_ready k (e ∷ es) inv h = run_ready (step k e).core es (step_keeps k inv e) (step_ready k inv h e)

pub all_ready : (s : Start) (events : List Event) → Readied (ran s events)
all_ready s events = run_ready (core_at s.catalog s.rows s.first s.partitions s.size) events (starts_well s.catalog s.rows s.first s.partitions s.size s.can_start s.sorted) (record { actors = tt; flush = tt })
