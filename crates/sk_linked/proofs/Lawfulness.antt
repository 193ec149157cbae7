-- An event that is not lawful changes nothing.
use Rattle.std.specs.Prelude.{ℕ, List, [], ◌∷◌, Option, Some, None, Bool, true, false, cond, not, ◌&&◌, ◌≡◌, is_some}
use Rattle.std.proofs.Common.{refl, sym, ap, subst, ◌∙◌}
use Rattle.std.proofs.lemmas.Bool.{cond_both, false≢true, and_parts}
use Rattle.std.specs.Cmp.Derive.{both_true}
use Rattle.sk_rows.specs.declared.value.Value.{Value}
use Rattle.sk_model.specs.declared.label.Label.{Label}
use Rattle.sk_model.specs.declared.engine.EngineName.{EngineName}
use Rattle.sk_model.specs.declared.engine.EngineName.TheVariants.{Mem, Store}
use Rattle.sk_model.specs.declared.record.TxKind.{TxKind}
use Rattle.sk_model.specs.declared.step.StepName.TheVariants as names
use Rattle.sk_model.specs.declared.call.EngineCall.{EngineCall}
use Rattle.sk_model.specs.declared.call.EngineCall.TheVariants as call
use Rattle.sk_model.specs.declared.record.Ending.TheVariants as ending
use Rattle.sk_model.specs.declared.call.EngineFault.{EngineFault}
use Rattle.sk_model.specs.declared.call.EngineReply.{EngineReply}
use Rattle.sk_model.specs.declared.call.EngineReply.TheVariants.{Done, Found, Rows, Number, Commits, Fault}
use Rattle.sk_model.specs.declared.commit.Write.{Write}
use Rattle.sk_model.specs.EngineConditions.{may}
use Rattle.sk_linked.specs.declared.event.Event.{Event}
use Rattle.sk_linked.specs.declared.event.Event.TheVariants as event
use Rattle.sk_linked.specs.declared.event.CoreReply.{CoreReply}
use Rattle.sk_linked.specs.declared.event.CoreReply.TheVariants as reply
use Rattle.sk_linked.specs.State.{Both, of, with_of, other, Actor, Flush, Core, table_of}
use Rattle.sk_linked.specs.Plans.{Plan, nothing, only, drops, ended, reads, found_rows, is_running, is_cross, is_untouched, is_free, is_opened, selects, opens_store, engine_of, read_call, read_plan, put_call, put_plan, close_of, draw_of, stamp_of, todo, comes_next, leave_plan, may_close, may_draw, may_check, may_stamp_now, may_leave, plan_for, actor_in, is_next, plan_new, plan_with}
use Rattle.sk_linked.specs.Machine.{Next, not_now, taken, may_all, lets, cut_next, may_cut, flush_step, live_step, stopped_step}
use Rattle.sk_linked.specs.Lawful.{is_lawful_for, is_lawful_in, is_lawful_now, is_reopen, UnlawfulIsNotNow}
use Rattle.sk_linked.proofs.Applying.{lets_in}

-- the machine stays as it is
abbrev Stays : Core → Event → Option Plan → Type 0
Stays k e o = taken k e o ≡ not_now k

-- behind a guard it is to be shown where the guard holds
guarded : (k : Core) (e : Event) (b : Bool) (o : Option Plan) → (b ≡ true → Stays k e o) → Stays k e (cond b o None)
guarded k e b o h = cond_both b o None (λ (x : Option Plan). Stays k e x) h (λ f. refl)

unlet : (k : Core) (e : Event) (p : Plan) → (lets k p.calls ≡ true → ⊥) → Stays k e (Some p)
unlet k e p h = cond_both (lets k p.calls) _ (not_now k) (λ (x : Next). x ≡ not_now k) (λ y. absurd (h y)) (λ f. refl)

both_ways : {A : Type 0} (b : Bool) → b ≡ false → b ≡ true → A
both_ways b f y = absurd (false≢true (sym f ∙ y))

of_with : {X : Type 0} (name : EngineName) (x : X) (b : Both X) → of name (with_of name x b) ≡ x
of_with Mem x b = refl
of_with Store x b = refl

-- the first call of a plan may be made
first_may : (k : Core) (calls : Both (List EngineCall)) (name : EngineName) (c : EngineCall) (cs : List EngineCall) → of name calls ≡ c ∷ cs → lets k calls ≡ true → may (table_of k name) c ≡ true
first_may k calls name c cs q y = (and_parts (may (table_of k name) c) _ (subst (λ xs. may_all (table_of k name) xs ≡ true) q (lets_in k calls name y))).0

module _ (k : Core) (r : Actor) where
  free_runs : is_free r ≡ true → is_running r.stage ≡ true
  free_runs e = (and_parts (is_running r.stage) (is_untouched r) e).0

  some_is : {X : Type 0} (o : Option X) (x : X) → o ≡ Some x → is_some o ≡ true
  some_is o x e = ap (λ z. is_some z) e

  none_not : {X : Type 0} (o : Option X) → o ≡ None → not (is_some o) ≡ true
  none_not o e = ap (λ z. not (is_some z)) e

  select_stays : (tx : Label) → is_lawful_for k r (event.Select tx) ≡ false → (is_free r && is_cross r.kind) ≡ true → (m c : Option ℕ) → r.chosen ≡ c → Stays k (event.Select tx) (selects k r m c)
  select_stays tx f g (Some a) None e = both_ways _ f (both_true (free_runs (and_parts (is_free r) _ g).0) (both_true (and_parts (is_free r) _ g).1 (none_not r.chosen e)))
  select_stays tx f g (Some a) (Some b) e = refl
  select_stays tx f g None c e = refl

  open_stays : (tx : Label) → is_lawful_for k r (event.OpenStore tx) ≡ false → is_free r ≡ true → (c s : Option ℕ) → r.chosen ≡ c → r.opened.store ≡ s → Stays k (event.OpenStore tx) (opens_store k r c s)
  open_stays tx f g (Some b) None e q = both_ways _ f (both_true (free_runs g) (both_true (some_is r.chosen b e) (none_not r.opened.store q)))
  open_stays tx f g (Some b) (Some s) e q = refl
  open_stays tx f g None s e q = refl

  first_stays : (e : Event) (p : Plan) (name : EngineName) (c : EngineCall) (cs : List EngineCall) → of name p.calls ≡ c ∷ cs → (may (table_of k name) c ≡ true → ⊥) → Stays k e (Some p)
  first_stays e p name c cs q h = unlet k e p (λ y. h (first_may k p.calls name c cs q y))

  reads_stay : (e : Event) (name : EngineName) (c : EngineCall) (said : CoreReply) → (may (table_of k name) c ≡ true → ⊥) → Stays k e (Some (reads r k name c said))
  reads_stay e name c said h = first_stays e (reads r k name c said) name c [] (of_with name (c ∷ []) nothing) h

  read_stays : (e : Event) (name : EngineName) (key : Option Value) (c : EngineCall) (a : EngineReply) → (may (table_of k name) c ≡ true → ⊥) → Stays k e (read_plan k r name key c a)
  read_stays e name key c (Found row) h = reads_stay e name c (reply.Rows (found_rows key row)) h
  read_stays e name key c (Rows rows) h = reads_stay e name c (reply.Rows rows) h
  read_stays e name key c (Fault f) h = reads_stay e name c (reply.Refused f) h
  read_stays e name key c Done h = refl
  read_stays e name key c (Number n) h = refl
  read_stays e name key c (Commits cs) h = refl

  abbrev done_plan : EngineName → Write → Plan
  done_plan name w = record { reply = reply.Done; calls = only name (put_call r.label w ∷ []); regs = k.regs; who = record r { wrote = with_of name true r.wrote } }

  abbrev conflict_plan : EngineName → Write → EngineFault → Plan
  conflict_plan name w f = record {
    reply = reply.Refused f;
    calls = with_of name (put_call r.label w ∷ call.DropTx r.label ∷ []) (only (other name) (drops k r (other name)));
    regs = k.regs;
    who = ended ending.Conflict r;
  }

  put_stays : (e : Event) (name : EngineName) (w : Write) (a : EngineReply) → (may (table_of k name) (put_call r.label w) ≡ true → ⊥) → Stays k e (put_plan k r name w a)
  put_stays e name w Done h = first_stays e (done_plan name w) name (put_call r.label w) [] (of_with name (put_call r.label w ∷ []) nothing) h
  put_stays e name w (Fault f) h = first_stays e (conflict_plan name w f) name (put_call r.label w) (call.DropTx r.label ∷ []) (of_with name (put_call r.label w ∷ call.DropTx r.label ∷ []) (only (other name) (drops k r (other name)))) h
  put_stays e name w (Found row) h = refl
  put_stays e name w (Rows rows) h = refl
  put_stays e name w (Number n) h = refl
  put_stays e name w (Commits cs) h = refl

  plan_stays : (e : Event) → is_lawful_for k r e ≡ false → Stays k e (plan_for k r e)
  plan_stays (event.Begin tx kind) f = refl
  plan_stays (event.Select tx) f = guarded k (event.Select tx) (is_free r && is_cross r.kind) _ (λ g. select_stays tx f g r.opened.mem r.chosen refl)
  plan_stays (event.OpenStore tx) f = guarded k (event.OpenStore tx) (is_free r) _ (λ g. open_stays tx f g r.chosen r.opened.store refl refl)
  plan_stays (event.Read tx t key) f = guarded k (event.Read tx t key) (is_free r && is_opened r (engine_of k t)) _
      (λ g. read_stays (event.Read tx t key) (engine_of k t) key (read_call r.label t key) _ (λ m. false≢true (sym f ∙ both_true (free_runs (and_parts (is_free r) _ g).0) m)))
  plan_stays (event.Put tx w) f = guarded k (event.Put tx w) (is_free r && is_opened r (engine_of k w.table)) _
      (λ g. put_stays (event.Put tx w) (engine_of k w.table) w _ (λ m. false≢true (sym f ∙ both_true (free_runs (and_parts (is_free r) _ g).0) m)))
  plan_stays (event.Close tx name) f = guarded k (event.Close tx name) (may_close r name) _ (λ g. both_ways _ f (and_parts (comes_next (close_of name) (todo r)) _ g).0)
  plan_stays (event.Draw tx name) f = guarded k (event.Draw tx name) (may_draw r name) _ (λ g. both_ways _ f (and_parts (comes_next (draw_of name) (todo r)) _ (and_parts _ _ g).0).0)
  plan_stays (event.Check tx) f = guarded k (event.Check tx) (may_check r) _ (λ g. both_ways _ f (and_parts (comes_next names.Check (todo r)) _ g).0)
  plan_stays (event.Stamp tx name) f = guarded k (event.Stamp tx name) (may_stamp_now r name) _ (λ g. both_ways _ f (and_parts (comes_next (stamp_of name) (todo r)) _ g).0)
  plan_stays (event.Leave tx name) f = guarded k (event.Leave tx name) (may_leave r) (Some (leave_plan k r name))
      (λ g. unlet k (event.Leave tx name) (leave_plan k r name) (λ y. false≢true (sym f ∙ both_true g (first_may k (leave_plan k r name).calls name (call.DropTx r.label) [] (of_with name (call.DropTx r.label ∷ []) nothing) y))))
  plan_stays event.Cut f = refl
  plan_stays event.FlushStep f = refl
  plan_stays (event.Purge name) f = refl
  plan_stays event.Stop f = refl
  plan_stays event.Reopen f = refl

module _ (k : Core) where
  in_stays : (o : Option Actor) (e : Event) → plan_new k e ≡ None → is_lawful_in k o e ≡ false → Stays k e (plan_with k o e)
  in_stays None e q f = subst (λ o. Stays k e o) (sym q) refl
  in_stays (Some r) e q f = plan_stays k r e f

  begin_stays : (tx : Label) (kind : TxKind) → is_next tx k.actors ≡ false → (o : Option Actor) → Stays k (event.Begin tx kind) (plan_with k o (event.Begin tx kind))
  begin_stays tx kind f None = guarded k (event.Begin tx kind) (is_next tx k.actors) _ (λ g. both_ways _ f g)
  begin_stays tx kind f (Some r) = refl

  flush_stays : (o : Option Flush) → is_some o ≡ false → flush_step k o ≡ not_now k
  flush_stays None f = refl
  flush_stays (Some x) f = absurd (false≢true (sym f))

  live_stays : (e : Event) → is_lawful_now k e ≡ false → live_step k e ≡ not_now k
  live_stays (event.Begin tx kind) f = begin_stays tx kind f (actor_in tx k.actors)
  live_stays (event.Select tx) f = in_stays (actor_in tx k.actors) (event.Select tx) refl f
  live_stays (event.OpenStore tx) f = in_stays (actor_in tx k.actors) (event.OpenStore tx) refl f
  live_stays (event.Read tx t key) f = in_stays (actor_in tx k.actors) (event.Read tx t key) refl f
  live_stays (event.Put tx w) f = in_stays (actor_in tx k.actors) (event.Put tx w) refl f
  live_stays (event.Close tx name) f = in_stays (actor_in tx k.actors) (event.Close tx name) refl f
  live_stays (event.Draw tx name) f = in_stays (actor_in tx k.actors) (event.Draw tx name) refl f
  live_stays (event.Check tx) f = in_stays (actor_in tx k.actors) (event.Check tx) refl f
  live_stays (event.Stamp tx name) f = in_stays (actor_in tx k.actors) (event.Stamp tx name) refl f
  live_stays (event.Leave tx name) f = in_stays (actor_in tx k.actors) (event.Leave tx name) refl f
  live_stays event.Cut f = cond_both (may_cut k.flush) (cut_next k) (not_now k) (λ (x : Next). x ≡ not_now k) (λ y. both_ways _ f y) (λ y. refl)
  live_stays event.FlushStep f = flush_stays k.flush f
  live_stays (event.Purge name) f = absurd (false≢true (sym f))
  live_stays event.Stop f = absurd (false≢true (sym f))
  live_stays event.Reopen f = refl

  stopped_stays : (e : Event) → is_reopen e ≡ false → stopped_step k e ≡ not_now k
  stopped_stays (event.Begin tx kind) f = refl
  stopped_stays (event.Select tx) f = refl
  stopped_stays (event.OpenStore tx) f = refl
  stopped_stays (event.Read tx t key) f = refl
  stopped_stays (event.Put tx w) f = refl
  stopped_stays (event.Close tx name) f = refl
  stopped_stays (event.Draw tx name) f = refl
  stopped_stays (event.Check tx) f = refl
  stopped_stays (event.Stamp tx name) f = refl
  stopped_stays (event.Leave tx name) f = refl
  stopped_stays event.Cut f = refl
  stopped_stays event.FlushStep f = refl
  stopped_stays (event.Purge name) f = refl
  stopped_stays event.Stop f = refl
  stopped_stays event.Reopen f = absurd (false≢true (sym f))

pub unlawful : UnlawfulIsNotNow
unlawful k e f = by_stop k.stopped f
  where
    by_stop : (b : Bool) → cond b (is_reopen e) (is_lawful_now k e) ≡ false → cond b (stopped_step k e) (live_step k e) ≡ not_now k
    by_stop true f = stopped_stays k e f
    by_stop false f = live_stays k e f
