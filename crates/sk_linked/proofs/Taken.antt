-- In every run an event that is lawful is taken.
use Rattle.std.specs.Prelude.{ℕ, zero, suc, [], ◌∷◌, Option, Some, None, Bool, true, false, cond, not, ◌≡◌, ◌==◌, ◌+◌, ◌≤◌, ◌<◌, is_some, nat_lt, length}
use Rattle.std.specs.List.{filter}
use Rattle.std.proofs.Common.{refl, sym, ap, subst, ◌∙◌, arith}
use Rattle.std.proofs.lemmas.Bool.{cond_both, false≢true, and_parts, ltb-true, eqb-true}
use Rattle.std.specs.Cmp.Derive.{both_true}
use Rattle.sk_model.specs.declared.label.Label.{Label}
use Rattle.sk_model.specs.declared.engine.EngineName.TheVariants.{Mem, Store}
use Rattle.sk_model.specs.declared.record.TxKind.{TxKind}
use Rattle.sk_model.specs.declared.record.TxKind.TheVariants as kind
use Rattle.sk_model.specs.declared.call.EngineFault.TheVariants as fault
use Rattle.sk_model.specs.declared.call.EngineCall.TheVariants as call
use Rattle.sk_model.specs.declared.call.EngineReply.TheVariants.{Done, Fault}
use Rattle.sk_model.specs.Records.{same_label}
use Rattle.sk_model.specs.Engine.{Opening}
use Rattle.sk_model.specs.EngineConditions.{may, empty_of}
use Rattle.sk_model.specs.declared.point.Point.{Point}
use Rattle.sk_model.specs.EngineReplies.{answer_of, horizon_of}
use Rattle.sk_weave.specs.Registry.{live_of, greatest_within}
use Rattle.sk_model.specs.Talks.{is_by}
use Rattle.sk_model.proofs.Labels.{same_is}
use Rattle.sk_linked.specs.Reads.{first_table}
use Rattle.sk_linked.specs.declared.event.Event.{Event}
use Rattle.sk_linked.specs.declared.event.Event.TheVariants as event
use Rattle.sk_linked.specs.declared.event.CoreReply.TheVariants as reply
use Rattle.sk_linked.specs.Traces.{run_of, In}
use Rattle.sk_linked.specs.State.{of, Actor, Flush, Core, traces_of, table_of}
use Rattle.sk_linked.specs.Plans.{nothing, only, answer, of_session, newcomer, begin_mem, begin_plan, actor_in, is_next, plan_for, plan_with}
use Rattle.sk_linked.specs.Machine.{Next, not_now, for_label, is_greater, cut_taken, cut_next, may_cut, flushed, flush_step, live_step, stopped_step, step}
use Rattle.sk_linked.specs.Invariant.{Invariant}
use Rattle.sk_linked.specs.Runs.{ran}
use Rattle.sk_linked.specs.Lawful.{is_lawful_for, is_lawful_in, is_lawful_now, is_reopen, is_lawful, is_not_now, LawfulIsTaken}
use Rattle.sk_linked.proofs.Members.{each_in}
use Rattle.sk_linked.proofs.Projection.{none_pass_filter}
use Rattle.sk_linked.proofs.Others.{opening_others}
use Rattle.sk_linked.proofs.Beginning.{fresh}
use Rattle.sk_linked.proofs.Horizons.{purged_upto}
use Rattle.sk_linked.proofs.Stepping.{actor_found, cut_core}
use Rattle.sk_linked.proofs.Theorem.{all_keep}
use Rattle.sk_linked.proofs.Sessions.{all_fresh}
use Rattle.sk_linked.proofs.Ready.{IsReady, HasLeft, Readied, all_ready}
use Rattle.sk_linked.proofs.Steps.{IsStepping, Stepped, all_stepped}
use Rattle.sk_linked.proofs.StepsTaken.{take_close, take_draw, take_check, take_stamp}
use Rattle.sk_linked.proofs.Seeing.{Counted, Freshly}
use Rattle.sk_linked.proofs.Taking.{Takes, takes_plan, takes_when, lets_only, take_select, take_open, take_read, take_put, take_leave}

module _ (k : Core) (inv : Invariant k) (h : Freshly k) where
  -- the next label of a session is not there
  next_not_there : (tx : Label) → is_next tx k.actors ≡ true → (o : Option Actor) → actor_in tx k.actors ≡ o → actor_in tx k.actors ≡ None
  next_not_there tx y None e = e
  next_not_there tx y (Some r) e =
      let found : In r k.actors × (same_label tx r.label ≡ true) = actor_found tx k.actors r e in
      let same : tx ≡ r.label = same_is tx r.label found.1 in
      let least : tx.k ≤ length (filter (of_session tx) k.actors) = subst (λ (l : Label). l.k ≤ length (filter (of_session l) k.actors)) (sym same) (each_in (Counted k.actors) k.actors r h.counted found.0) in
      let next : tx.k ≡ length (filter (of_session tx) k.actors) + 1 = eqb-true tx.k (length (filter (of_session tx) k.actors) + 1) (and_parts _ (tx.k == length (filter (of_session tx) k.actors) + 1) y).1 in
      absurd (omega (arith, least, next))

  module _ (tx : Label) (none : actor_in tx k.actors ≡ None) where
    may_open : may (table_of k Mem) (call.Open tx k.regs.mem) ≡ true
    may_open = ap (λ (x : Option Opening). not (is_some x)) (opening_others tx (first_table (run_of (traces_of k)) Mem) (of Mem k.journals) (none_pass_filter (is_by tx) (of Mem k.journals) (fresh k inv tx none kind.Mem reply.Done nothing None None Mem)))

    begin_done : (kind : TxKind) → Takes k (event.Begin tx kind) (begin_mem k tx kind Done)
    begin_done kind = takes_plan k (event.Begin tx kind) (record { reply = reply.Number k.regs.mem; calls = only Mem (call.Open tx k.regs.mem ∷ []); regs = k.regs; who = newcomer k tx kind (Some k.regs.mem) None })
        (lets_only k Mem (call.Open tx k.regs.mem ∷ []) (both_true may_open refl)) refl

    begin_mem_takes : (kind : TxKind) → Takes k (event.Begin tx kind) (begin_mem k tx kind (answer k Mem (call.Open tx k.regs.mem)))
    begin_mem_takes kind = cond_both (may (table_of k Mem) (call.Open tx k.regs.mem)) (answer_of (table_of k Mem) (call.Open tx k.regs.mem)) (empty_of (call.Open tx k.regs.mem)) (λ a. Takes k (event.Begin tx kind) (begin_mem k tx kind a))
        (λ t. cond_both (nat_lt k.regs.mem (table_of k Mem).purged) (Fault (fault.Old k.regs.mem (table_of k Mem).purged)) Done (λ a. Takes k (event.Begin tx kind) (begin_mem k tx kind a))
        (λ u. let less : k.regs.mem < (table_of k Mem).purged = ltb-true k.regs.mem (table_of k Mem).purged u in let upto : (table_of k Mem).purged ≤ k.regs.mem = purged_upto k inv Mem in absurd (omega (arith, less, upto)))
        (λ u. begin_done kind))
        (λ t. begin_done kind)

    begin_takes : (kind : TxKind) → Takes k (event.Begin tx kind) (begin_plan k tx kind)
    begin_takes kind.Cross = begin_mem_takes kind.Cross
    begin_takes kind.Mem = begin_mem_takes kind.Mem
    begin_takes kind.Store = takes_plan k (event.Begin tx kind.Store) (record { reply = reply.Number k.regs.store; calls = nothing; regs = k.regs; who = newcomer k tx kind.Store None (Some k.regs.store) }) refl refl

  begin_lawful : (tx : Label) (kind : TxKind) → is_next tx k.actors ≡ true → Takes k (event.Begin tx kind) (plan_with k (actor_in tx k.actors) (event.Begin tx kind))
  begin_lawful tx kind y =
      let none : actor_in tx k.actors ≡ None = next_not_there tx y (actor_in tx k.actors) refl in
      subst (λ o. Takes k (event.Begin tx kind) (plan_with k o (event.Begin tx kind))) (sym none) (takes_when k (event.Begin tx kind) (is_next tx k.actors) (begin_plan k tx kind) y (begin_takes tx none kind))

module _ (k : Core) (inv : Invariant k) (h : Freshly k) (ready : Readied k) (steps : Stepped k) where
  plan_takes : (r : Actor) → In r k.actors → (e : Event) → is_lawful_for k r e ≡ true → Takes k e (plan_for k r e)
  plan_takes r i (event.Begin tx kind) y = absurd (false≢true y)
  plan_takes r i (event.Select tx) y = take_select k inv r i (each_in IsReady k.actors r ready.actors i) tx y
  plan_takes r i (event.OpenStore tx) y = take_open k inv r i (each_in IsReady k.actors r ready.actors i) tx y
  plan_takes r i (event.Read tx t key) y = take_read k inv r i (each_in IsReady k.actors r ready.actors i) tx t key y
  plan_takes r i (event.Put tx w) y = take_put k inv r i (each_in IsReady k.actors r ready.actors i) tx w y
  plan_takes r i (event.Close tx name) y = take_close k inv h r i (each_in IsReady k.actors r ready.actors i) (each_in IsStepping k.actors r steps i) tx name y
  plan_takes r i (event.Draw tx name) y = take_draw k inv h r i (each_in IsReady k.actors r ready.actors i) (each_in IsStepping k.actors r steps i) tx name y
  plan_takes r i (event.Check tx) y = take_check k inv h r i (each_in IsReady k.actors r ready.actors i) (each_in IsStepping k.actors r steps i) tx y
  plan_takes r i (event.Stamp tx name) y = take_stamp k inv h r i (each_in IsReady k.actors r ready.actors i) (each_in IsStepping k.actors r steps i) tx name y
  plan_takes r i (event.Leave tx name) y = take_leave k inv r i (each_in IsReady k.actors r ready.actors i) tx name y
  plan_takes r i event.Cut y = absurd (false≢true y)
  plan_takes r i event.FlushStep y = absurd (false≢true y)
  plan_takes r i (event.Purge name) y = absurd (false≢true y)
  plan_takes r i event.Stop y = absurd (false≢true y)
  plan_takes r i event.Reopen y = absurd (false≢true y)

  label_takes : (tx : Label) (e : Event) → is_lawful_in k (actor_in tx k.actors) e ≡ true → is_not_now (for_label k tx e).reply ≡ false
  label_takes tx e y = found (actor_in tx k.actors) refl y
    where
      found : (o : Option Actor) → actor_in tx k.actors ≡ o → is_lawful_in k o e ≡ true → Takes k e (plan_with k o e)
      found None q y = absurd (false≢true y)
      found (Some r) q y = plan_takes r (actor_found tx k.actors r q).0 e y

  cut_takes : (j : Core) (o : Option Point) → is_not_now (cut_taken j o).reply ≡ false
  cut_takes j None = refl
  cut_takes j (Some q) = cond_both (is_greater q j.durable) _ _ (λ (n : Next). is_not_now n.reply ≡ false) (λ t. refl) (λ f. refl)

  flushed_takes : (f : Flush) (n : ℕ) → 1 ≤ n → is_not_now (flushed k f n).reply ≡ false
  flushed_takes f zero l = absurd (omega (arith, l))
  flushed_takes f (suc zero) l = refl
  flushed_takes f (suc (suc n)) l = refl

  flush_takes : (o : Option Flush) → HasLeft o → is_some o ≡ true → is_not_now (flush_step k o).reply ≡ false
  flush_takes None l y = absurd (false≢true y)
  flush_takes (Some f) l y = flushed_takes f f.left l

  live_takes : (e : Event) → is_lawful_now k e ≡ true → is_not_now (live_step k e).reply ≡ false
  live_takes (event.Begin tx kind) y = begin_lawful k inv h tx kind y
  live_takes (event.Select tx) y = label_takes tx (event.Select tx) y
  live_takes (event.OpenStore tx) y = label_takes tx (event.OpenStore tx) y
  live_takes (event.Read tx t key) y = label_takes tx (event.Read tx t key) y
  live_takes (event.Put tx w) y = label_takes tx (event.Put tx w) y
  live_takes (event.Close tx name) y = label_takes tx (event.Close tx name) y
  live_takes (event.Draw tx name) y = label_takes tx (event.Draw tx name) y
  live_takes (event.Check tx) y = label_takes tx (event.Check tx) y
  live_takes (event.Stamp tx name) y = label_takes tx (event.Stamp tx name) y
  live_takes (event.Leave tx name) y = label_takes tx (event.Leave tx name) y
  live_takes event.Cut y = cond_both (may_cut k.flush) (cut_next k) (not_now k) (λ (n : Next). is_not_now n.reply ≡ false)
      (λ t. cut_takes (cut_core k) (greatest_within (horizon_of (table_of k Mem)) (horizon_of (table_of k Store)) None (live_of (cut_core k).regs)))
      (λ f. absurd (false≢true (sym f ∙ y)))
  live_takes event.FlushStep y = flush_takes k.flush ready.flush y
  live_takes (event.Purge name) y = refl
  live_takes event.Stop y = refl
  live_takes event.Reopen y = absurd (false≢true y)

  stopped_takes : (e : Event) → is_reopen e ≡ true → is_not_now (stopped_step k e).reply ≡ false
  stopped_takes (event.Begin tx kind) y = absurd (false≢true y)
  stopped_takes (event.Select tx) y = absurd (false≢true y)
  stopped_takes (event.OpenStore tx) y = absurd (false≢true y)
  stopped_takes (event.Read tx t key) y = absurd (false≢true y)
  stopped_takes (event.Put tx w) y = absurd (false≢true y)
  stopped_takes (event.Close tx name) y = absurd (false≢true y)
  stopped_takes (event.Draw tx name) y = absurd (false≢true y)
  stopped_takes (event.Check tx) y = absurd (false≢true y)
  stopped_takes (event.Stamp tx name) y = absurd (false≢true y)
  stopped_takes (event.Leave tx name) y = absurd (false≢true y)
  stopped_takes event.Cut y = absurd (false≢true y)
  stopped_takes event.FlushStep y = absurd (false≢true y)
  stopped_takes (event.Purge name) y = absurd (false≢true y)
  stopped_takes event.Stop y = absurd (false≢true y)
  stopped_takes event.Reopen y = refl

  takes : (e : Event) → is_lawful k e ≡ true → is_not_now (step k e).reply ≡ false
  takes e y = by_stop k.stopped y
    where
      by_stop : (b : Bool) → cond b (is_reopen e) (is_lawful_now k e) ≡ true → is_not_now (cond b (stopped_step k e) (live_step k e)).reply ≡ false
      by_stop true y = stopped_takes e y
      by_stop false y = live_takes e y

pub lawful : LawfulIsTaken
lawful s events e y = takes (ran s events) (all_keep s events) (all_fresh s events) (all_ready s events) (all_stepped s events) e y
