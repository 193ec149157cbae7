-- The commit steps that are left to each transaction fit what it did, and where it may still close it has ended nothing.
use Rattle.std.specs.Prelude.{ℕ, zero, suc, List, [], ◌∷◌, ◌++◌, Option, Some, None, Result, Ok, Err, Bool, true, false, cond, not, ◌&&◌, ◌||◌, ◌≡◌, is_some}
use Rattle.std.proofs.Common.{refl, sym, ap, subst, ◌∙◌}
use Rattle.std.proofs.lemmas.Bool.{cond_both, cond-true, false≢true, and_parts, not-true}
use Rattle.std.specs.List.{AllByRecursion}
use Rattle.sk_rows.specs.declared.value.Value.{Value}
use Rattle.sk_model.specs.declared.label.Label.{Label}
use Rattle.sk_model.specs.declared.engine.EngineName.{EngineName}
use Rattle.sk_model.specs.declared.engine.EngineName.TheVariants.{Mem, Store}
use Rattle.sk_model.specs.declared.record.TxKind.{TxKind}
use Rattle.sk_model.specs.declared.record.TxKind.TheVariants as kind
use Rattle.sk_model.specs.declared.point.Point.{Point}
use Rattle.sk_model.specs.declared.point.Recycled.{Recycled}
use Rattle.sk_model.specs.declared.step.StepName.{StepName}
use Rattle.sk_model.specs.declared.step.StepName.TheVariants as names
use Rattle.sk_model.specs.declared.commit.Write.{Write}
use Rattle.sk_model.specs.declared.call.EngineCall.{EngineCall}
use Rattle.sk_model.specs.declared.call.EngineCall.TheVariants as call
use Rattle.sk_model.specs.declared.call.EngineReply.{EngineReply}
use Rattle.sk_model.specs.declared.call.EngineReply.TheVariants.{Done, Found, Rows, Number, Commits, Fault}
use Rattle.sk_model.specs.declared.call.Entry.{Entry}
use Rattle.sk_model.specs.Engine.{EngineTable, opening_of}
use Rattle.sk_model.specs.Calls.{ends}
use Rattle.sk_model.specs.EngineReplies.{horizon_of}
use Rattle.sk_model.specs.Talks.{Talk, calls_in}
use Rattle.sk_model.proofs.Lists.{each_weaker, each_append}
use Rattle.sk_weave.specs.declared.answer.Selected.{Selected}
use Rattle.sk_weave.specs.declared.answer.DrawFault.{DrawFault}
use Rattle.sk_weave.specs.declared.answer.DrawFault.TheVariants.{Spent, Early}
use Rattle.sk_weave.specs.Registry.{live_of, selected, drawn, passes, greatest_within}
use Rattle.sk_linked.specs.declared.event.Event.{Event}
use Rattle.sk_linked.specs.declared.event.Event.TheVariants as event
use Rattle.sk_linked.specs.declared.event.CoreReply.TheVariants as reply
use Rattle.sk_linked.specs.Traces.{drawn_at, In}
use Rattle.sk_linked.specs.State.{Both, of, with_of, other, Stage, Running, Stepping, Leaving, Over, Actor, Flush, Core, core_at, table_of, counter}
use Rattle.sk_linked.specs.Plans.{Plan, nothing, only, answer, is_running, is_cross, both_false, is_undrawn, is_untouched, is_free, is_opened, select_plan, selects, open_plan, opens_store, engine_of, read_call, read_plan, put_call, put_plan, steps_in, close_of, draw_of, stamp_of, comes_next, behind, todo, close_plan, with_drawn, draw_plan, floor_in, checks, stage_behind, is_none, may_close, may_draw, may_check, may_stamp_now, may_leave, may_stamp_in, stamps, stamp_plan, stage_left, leave_plan, plan_for, actor_in, is_next, begin_mem, begin_plan, plan_new, plan_with}
use Rattle.sk_linked.specs.Machine.{entered, calls_on, recorded, Next, not_now, taken, lets, for_label, is_greater, cut_taken, cut_next, may_cut, flushed, flush_step, live_step, stopped_step, step, run}
use Rattle.sk_linked.specs.Invariant.{Invariant}
use Rattle.sk_linked.specs.Runs.{Start, ran}
use Rattle.sk_linked.proofs.Going.{calls_more}
use Rattle.sk_linked.proofs.Members.{each_in, some_clash}
use Rattle.sk_linked.proofs.Applying.{Other, each_put_actor, each_entered, left_is}
use Rattle.sk_linked.proofs.Stepping.{actor_found, cut_core, starts_well, step_keeps}
use Rattle.sk_linked.proofs.Events.{none_is}
use Rattle.sk_linked.proofs.Ready.{IsReady, Readied, step_ready}
use Rattle.sk_linked.proofs.Flags.{is_fit, starts, close_mem, close_store, draw_mem, draw_store, check, stamp_mem, stamp_store}

-- a commit step may still come
abbrev pub can_step : Stage → Bool
can_step Running = true
can_step (Stepping steps) = true
can_step Leaving = false
can_step Over = false

-- these steps fit what the transaction did
abbrev pub FitFor : Actor → List StepName → Type 0
FitFor r steps = is_fit r.wrote.mem r.wrote.store r.shut.mem r.shut.store (is_some r.drew.mem) (is_some r.drew.store) r.committed steps ≡ true

abbrev pub FitsAt : Actor → Stage → Type 0
FitsAt r Running = Unit {0}
FitsAt r (Stepping steps) = FitFor r steps
FitsAt r Leaving = Unit {0}
FitsAt r Over = Unit {0}

-- the calls end nothing for the label
abbrev pub NoEnds : Label → List Entry → Type 0
NoEnds l js = AllByRecursion (λ (j : Entry). ends l j.call ≡ false) js

pub record IsStepping (r : Actor) : Type 0 where
  pub fits : FitsAt r r.stage
  pub still : (name : EngineName) → can_step r.stage ≡ true → r.committed ≡ false → of name r.shut ≡ false → drawn_at name r.drew ≡ None → NoEnds r.label (calls_in name r.talk)

-- the steps that are left fit
pub todo_fits : (r : Actor) → IsReady r → FitsAt r r.stage → can_step r.stage ≡ true → FitFor r (todo r)
todo_fits r h f y = go r.stage refl f y
  where
    go : (s : Stage) → r.stage ≡ s → FitsAt r s → can_step s ≡ true → FitFor r (steps_in r.wrote s)
    go Running e f y = starts r.wrote.mem r.wrote.store r.shut.mem r.shut.store (is_some r.drew.mem) (is_some r.drew.store) r.committed (h.untouched (ap is_running e))
    go (Stepping steps) e f y = f
    go Leaving e f y = absurd (false≢true y)
    go Over e f y = absurd (false≢true y)

-- who has a step to make can make it
pub can_next : (x : StepName) (r : Actor) → comes_next x (todo r) ≡ true → can_step r.stage ≡ true
can_next x r y = go r.stage y
  where
    go : (s : Stage) → comes_next x (steps_in r.wrote s) ≡ true → can_step s ≡ true
    go Running y = refl
    go (Stepping steps) y = refl
    go Leaving y = absurd (false≢true y)
    go Over y = absurd (false≢true y)

abbrev Steps : Core → Event → Option Plan → Type 0
Steps k e None = Unit {0}
Steps k e (Some p) = IsStepping (recorded k e p)

steps_when : (k : Core) (e : Event) (b : Bool) (o : Option Plan) → (b ≡ true → Steps k e o) → Steps k e (cond b o None)
steps_when k e b o h = cond_both b o None (λ (x : Option Plan). Steps k e x) h (λ f. tt)

-- no step may come any more
over_is : (x : Actor) → can_step x.stage ≡ false → FitsAt x x.stage → IsStepping x
over_is x f g = record { fits = g; still = λ name y c s d. absurd (false≢true (sym f ∙ y)) }

-- it is committed
committed_is : (x : Actor) → x.committed ≡ true → FitsAt x x.stage → IsStepping x
committed_is x y g = record { fits = g; still = λ name u c s d. absurd (false≢true (sym c ∙ y)) }

left_can : (b : Bool) → can_step (stage_left b) ≡ false
left_can true = refl
left_can false = refl

left_fits : (x : Actor) (b : Bool) → FitsAt x (stage_left b)
left_fits x true = tt
left_fits x false = tt

or_right : (a b : Bool) → (a || b) ≡ true → a ≡ false → b ≡ true
or_right true b h f = absurd (false≢true (sym f))
or_right false b h f = h

some_of : {A : Type 0} (o : Option ℕ) → is_some o ≡ false → (n : ℕ) → o ≡ Some n → A
some_of o f n e = absurd (false≢true (sym f ∙ ap (λ (x : Option ℕ). is_some x) e))

module _ (k : Core) (r : Actor) (ready : IsReady r) (h : IsStepping r) where
  -- the calls on an engine behind those of a plan
  calls_after : (name : EngineName) (calls : Both (List EngineCall))
      → calls_in name (r.talk ++ (calls_on Mem (entered (table_of k Mem) calls.mem) ++ calls_on Store (entered (table_of k Store) calls.store))) ≡ calls_in name r.talk ++ entered (table_of k name) (of name calls)
  calls_after name calls = calls_more name r.talk (calls_on Mem (entered (table_of k Mem) calls.mem) ++ calls_on Store (entered (table_of k Store) calls.store))
      ∙ ap (λ xs. calls_in name r.talk ++ xs) (sym (left_is k (record { reply = reply.Done; calls = calls; regs = k.regs; who = r }) name))

  abbrev Quiet : List EngineCall → Type 0
  Quiet cs = AllByRecursion (λ (c : EngineCall). ends r.label c ≡ false) cs

  still_more : (name : EngineName) (calls : Both (List EngineCall)) → Quiet (of name calls) → NoEnds r.label (calls_in name r.talk)
      → NoEnds r.label (calls_in name (r.talk ++ (calls_on Mem (entered (table_of k Mem) calls.mem) ++ calls_on Store (entered (table_of k Store) calls.store))))
  still_more name calls q old = subst (λ xs. NoEnds r.label xs) (sym (calls_after name calls))
      (each_append (λ (j : Entry). ends r.label j.call ≡ false) (calls_in name r.talk) (entered (table_of k name) (of name calls)) old
      (each_entered (λ (j : Entry). ends r.label j.call ≡ false) (table_of k name) (of name calls) (each_weaker (λ (c : EngineCall). ends r.label c ≡ false) (λ (c : EngineCall). (f : EngineTable) → ends r.label c ≡ false) (λ c q f. q) (of name calls) q)))

  -- a running transaction that goes on running
  runs_still : (calls : Both (List EngineCall)) → ((name : EngineName) → Quiet (of name calls)) → (name : EngineName) → is_free r ≡ true
      → NoEnds r.label (calls_in name (r.talk ++ (calls_on Mem (entered (table_of k Mem) calls.mem) ++ calls_on Store (entered (table_of k Store) calls.store))))
  runs_still calls q name y = still_more name calls (q name) (h.still name (running_can r.stage free.0) (not-true r.committed undrawn.0) (shut_off name) (none_drawn name))
    where
      free : (is_running r.stage ≡ true) × (is_untouched r ≡ true)
      free = and_parts (is_running r.stage) (is_untouched r) y

      running_can : (s : Stage) → is_running s ≡ true → can_step s ≡ true
      running_can Running y = refl
      running_can (Stepping steps) y = refl
      running_can Leaving y = absurd (false≢true y)
      running_can Over y = absurd (false≢true y)

      parts : (is_undrawn r ≡ true) × ((not r.shut.mem && not r.shut.store) ≡ true)
      parts = and_parts (is_undrawn r) (not r.shut.mem && not r.shut.store) free.1

      undrawn : (not r.committed ≡ true) × ((not (is_some r.drew.mem) && not (is_some r.drew.store)) ≡ true)
      undrawn = and_parts (not r.committed) (not (is_some r.drew.mem) && not (is_some r.drew.store)) parts.0

      shut_off : (name : EngineName) → of name r.shut ≡ false
      shut_off Mem = not-true r.shut.mem (and_parts (not r.shut.mem) (not r.shut.store) parts.1).0
      shut_off Store = not-true r.shut.store (and_parts (not r.shut.mem) (not r.shut.store) parts.1).1

      none_drawn : (name : EngineName) → drawn_at name r.drew ≡ None
      none_drawn Mem = none_is r.drew.mem (and_parts (not (is_some r.drew.mem)) (not (is_some r.drew.store)) undrawn.1).0
      none_drawn Store = none_is r.drew.store (and_parts (not (is_some r.drew.mem)) (not (is_some r.drew.store)) undrawn.1).1

  running_stage : (s : Stage) (x : Actor) → is_running s ≡ true → FitsAt x s
  running_stage Running x y = tt
  running_stage (Stepping steps) x y = absurd (false≢true y)
  running_stage Leaving x y = absurd (false≢true y)
  running_stage Over x y = absurd (false≢true y)

  quiet_only : (name : EngineName) (c : EngineCall) → ends r.label c ≡ false → (s : EngineName) → Quiet (of s (only name (c ∷ [])))
  quiet_only Mem c q Mem = (q, tt)
  quiet_only Mem c q Store = tt
  quiet_only Store c q Mem = tt
  quiet_only Store c q Store = (q, tt)

  quiet_none : (s : EngineName) → Quiet (of s nothing)
  quiet_none Mem = tt
  quiet_none Store = tt

  abbrev after : Both (List EngineCall) → Talk
  after calls = r.talk ++ (calls_on Mem (entered (table_of k Mem) calls.mem) ++ calls_on Store (entered (table_of k Store) calls.store))

  runs_is : (calls : Both (List EngineCall)) → ((name : EngineName) → Quiet (of name calls)) → is_free r ≡ true → (x : Actor) → x.stage ≡ r.stage → x.label ≡ r.label → x.talk ≡ after calls → IsStepping x
  runs_is calls q y x s l t = record {
    fits = running_stage x.stage x (ap is_running s ∙ (and_parts (is_running r.stage) (is_untouched r) y).0);
    still = λ name u c f d. subst (λ (m : Label). NoEnds m (calls_in name x.talk)) (sym l) (subst (λ (z : Talk). NoEnds r.label (calls_in name z)) (sym t) (runs_still calls q name y));
  }

  select_steps : (tx : Label) → is_free r ≡ true → (m c : Option ℕ) → Steps k (event.Select tx) (selects k r m c)
  select_steps tx y (Some a) None = go (selected k.regs a k.regs.store)
    where
      go : (x : Result Selected Recycled) → Steps k (event.Select tx) (Some (select_plan k r a x))
      go (Ok s) = runs_is nothing quiet_none y _ refl refl refl
      go (Err q) = over_is _ refl tt
  select_steps tx y (Some a) (Some b) = tt
  select_steps tx y None c = tt

  open_steps : (tx : Label) → is_free r ≡ true → (c s : Option ℕ) → Steps k (event.OpenStore tx) (opens_store k r c s)
  open_steps tx y (Some b) None = go (answer k Store (call.Open r.label b))
    where
      go : (a : EngineReply) → Steps k (event.OpenStore tx) (open_plan k r b a)
      go Done = runs_is (only Store (call.Open r.label b ∷ [])) (quiet_only Store (call.Open r.label b) refl) y _ refl refl refl
      go (Fault f) = over_is _ refl tt
      go (Found row) = tt
      go (Rows rows) = tt
      go (Number n) = tt
      go (Commits cs) = tt
  open_steps tx y (Some b) (Some s) = tt
  open_steps tx y None s = tt

  read_steps : (e : Event) (name : EngineName) (key : Option Value) (c : EngineCall) (a : EngineReply) → is_free r ≡ true → ends r.label c ≡ false → Steps k e (read_plan k r name key c a)
  read_steps e name key c (Found row) y q = runs_is (only name (c ∷ [])) (quiet_only name c q) y _ refl refl refl
  read_steps e name key c (Rows rows) y q = runs_is (only name (c ∷ [])) (quiet_only name c q) y _ refl refl refl
  read_steps e name key c (Fault f) y q = runs_is (only name (c ∷ [])) (quiet_only name c q) y _ refl refl refl
  read_steps e name key c Done y q = tt
  read_steps e name key c (Number n) y q = tt
  read_steps e name key c (Commits cs) y q = tt

  put_steps : (e : Event) (name : EngineName) (w : Write) (a : EngineReply) → is_free r ≡ true → Steps k e (put_plan k r name w a)
  put_steps e name w Done y = runs_is (only name (put_call r.label w ∷ [])) (quiet_only name (put_call r.label w) refl) y _ refl refl refl
  put_steps e name w (Fault f) y = over_is _ refl tt
  put_steps e name w (Found row) y = tt
  put_steps e name w (Rows rows) y = tt
  put_steps e name w (Number n) y = tt
  put_steps e name w (Commits cs) y = tt

  fit : (x : StepName) → comes_next x (todo r) ≡ true → FitFor r (todo r)
  fit x y = todo_fits r ready h.fits (can_next x r y)

  abbrev rest : List StepName
  rest = behind (todo r)

  close_steps : (e : Event) (name : EngineName) (a : EngineReply) → comes_next (close_of name) (todo r) ≡ true → Steps k e (close_plan k r name a)
  close_steps e Mem (Number floor) y = record {
    fits = (and_parts _ _ (close_mem r.wrote.mem r.wrote.store r.shut.mem r.shut.store (is_some r.drew.mem) (is_some r.drew.store) r.committed (todo r) (fit names.CloseMem y) y)).1;
    still = still;
  }
    where
      still : (s : EngineName) → true ≡ true → r.committed ≡ false → of s (with_of Mem true r.shut) ≡ false → drawn_at s r.drew ≡ None → NoEnds r.label (calls_in s (after (only Mem (call.Close r.label ∷ []))))
      still Mem u c f d = absurd (false≢true (sym f))
      still Store u c f d = still_more Store (only Mem (call.Close r.label ∷ [])) tt (h.still Store (can_next names.CloseMem r y) c f d)
  close_steps e Store (Number floor) y = record {
    fits = (and_parts _ _ (close_store r.wrote.mem r.wrote.store r.shut.mem r.shut.store (is_some r.drew.mem) (is_some r.drew.store) r.committed (todo r) (fit names.CloseStore y) y)).1;
    still = still;
  }
    where
      still : (s : EngineName) → true ≡ true → r.committed ≡ false → of s (with_of Store true r.shut) ≡ false → drawn_at s r.drew ≡ None → NoEnds r.label (calls_in s (after (only Store (call.Close r.label ∷ []))))
      still Mem u c f d = still_more Mem (only Store (call.Close r.label ∷ [])) tt (h.still Mem (can_next names.CloseStore r y) c f d)
      still Store u c f d = absurd (false≢true (sym f))
  close_steps e name Done y = tt
  close_steps e name (Found row) y = tt
  close_steps e name (Rows rows) y = tt
  close_steps e name (Commits cs) y = tt
  close_steps e name (Fault f) y = tt

  draw_steps : (e : Event) (name : EngineName) (x : Result ℕ DrawFault) → comes_next (draw_of name) (todo r) ≡ true → Steps k e (draw_plan k r name x)
  draw_steps e Mem (Ok n) y = record {
    fits = (and_parts _ _ (draw_mem r.wrote.mem r.wrote.store r.shut.mem r.shut.store (is_some r.drew.mem) (is_some r.drew.store) r.committed (todo r) (fit names.DrawMem y) y)).1;
    still = still;
  }
    where
      still : (s : EngineName) → true ≡ true → r.committed ≡ false → of s r.shut ≡ false → drawn_at s (with_drawn Mem n r.drew) ≡ None → NoEnds r.label (calls_in s (after nothing))
      still Mem u c f d = some_clash d
      still Store u c f d = still_more Store nothing tt (h.still Store (can_next names.DrawMem r y) c f d)
  draw_steps e Store (Ok n) y = record {
    fits = (and_parts _ _ (draw_store r.wrote.mem r.wrote.store r.shut.mem r.shut.store (is_some r.drew.mem) (is_some r.drew.store) r.committed (todo r) (fit names.DrawStore y) y)).1;
    still = still;
  }
    where
      still : (s : EngineName) → true ≡ true → r.committed ≡ false → of s r.shut ≡ false → drawn_at s (with_drawn Store n r.drew) ≡ None → NoEnds r.label (calls_in s (after nothing))
      still Mem u c f d = still_more Mem nothing tt (h.still Mem (can_next names.DrawStore r y) c f d)
      still Store u c f d = some_clash d
  draw_steps e name (Err Spent) y = over_is _ refl tt
  draw_steps e name (Err (Early floor counter)) y = tt

  check_steps : (e : Event) (m s : Option ℕ) → comes_next names.Check (todo r) ≡ true → Steps k e (checks k r m s)
  check_steps e (Some ca) (Some cb) y = cond_both (passes k.regs ca cb) _ _ (λ (p : Plan). Steps k e (Some p))
      (λ t. committed_is _ refl (and_parts _ _ (check r.wrote.mem r.wrote.store r.shut.mem r.shut.store (is_some r.drew.mem) (is_some r.drew.store) r.committed (todo r) (fit names.Check y) y)).1)
      (λ f. over_is _ refl tt)
  check_steps e (Some ca) None y = tt
  check_steps e None s y = tt

  -- behind a stamp
  stamp_fits : (x : Actor) (steps : List StepName) (b : Bool) (some : Both Bool) (none : Both Bool) → x.shut ≡ cond b some none
      → (is_none steps || (b && is_fit x.wrote.mem x.wrote.store some.mem some.store (is_some x.drew.mem) (is_some x.drew.store) x.committed steps)) ≡ true → FitsAt x (stage_behind steps)
  stamp_fits x [] b some none q t = tt
  stamp_fits x (z ∷ zs) b some none q t =
      let p : (b ≡ true) × (is_fit x.wrote.mem x.wrote.store some.mem some.store (is_some x.drew.mem) (is_some x.drew.store) x.committed (z ∷ zs) ≡ true) = and_parts b _ t in
      subst (λ (w : Both Bool). is_fit x.wrote.mem x.wrote.store w.mem w.store (is_some x.drew.mem) (is_some x.drew.store) x.committed (z ∷ zs) ≡ true) (sym (q ∙ cond-true b some none p.0)) p.1

  stamp_steps : (e : Event) (name : EngineName) (o : Option ℕ) → comes_next (stamp_of name) (todo r) ≡ true → Steps k e (stamps k r name o)
  stamp_steps e name None y = tt
  stamp_steps e Mem (Some n) y = steps_when k e (may_stamp_in r Mem) (Some (stamp_plan k r Mem n)) (λ t. committed_is _ refl
      (stamp_fits (recorded k e (stamp_plan k r Mem n)) rest (is_some r.drew.store) (with_of Mem false r.shut) both_false refl (and_parts _ _ (stamp_mem r.wrote.mem r.wrote.store r.shut.mem r.shut.store (is_some r.drew.mem) (is_some r.drew.store) r.committed (todo r) (fit names.StampMem y) y)).1))
  stamp_steps e Store (Some n) y = steps_when k e (may_stamp_in r Store) (Some (stamp_plan k r Store n)) (λ t. committed_is _ refl
      (stamp_fits (recorded k e (stamp_plan k r Store n)) rest (is_some r.drew.mem) (with_of Store false r.shut) both_false refl (and_parts _ _ (stamp_store r.wrote.mem r.wrote.store r.shut.mem r.shut.store (is_some r.drew.mem) (is_some r.drew.store) r.committed (todo r) (fit names.StampStore y) y)).1))

  read_quiet : (t : ℕ) (key : Option Value) → ends r.label (read_call r.label t key) ≡ false
  read_quiet t (Some v) = refl
  read_quiet t None = refl

  plan_steps : (e : Event) → Steps k e (plan_for k r e)
  plan_steps (event.Begin tx kind) = tt
  plan_steps (event.Select tx) = steps_when k (event.Select tx) (is_free r && is_cross r.kind) _ (λ y. select_steps tx (and_parts (is_free r) (is_cross r.kind) y).0 r.opened.mem r.chosen)
  plan_steps (event.OpenStore tx) = steps_when k (event.OpenStore tx) (is_free r) _ (λ y. open_steps tx y r.chosen r.opened.store)
  plan_steps (event.Read tx t key) = steps_when k (event.Read tx t key) (is_free r && is_opened r (engine_of k t)) _
      (λ y. read_steps (event.Read tx t key) (engine_of k t) key (read_call r.label t key) (answer k (engine_of k t) (read_call r.label t key)) (and_parts (is_free r) (is_opened r (engine_of k t)) y).0 (read_quiet t key))
  plan_steps (event.Put tx w) = steps_when k (event.Put tx w) (is_free r && is_opened r (engine_of k w.table)) _
      (λ y. put_steps (event.Put tx w) (engine_of k w.table) w (answer k (engine_of k w.table) (put_call r.label w)) (and_parts (is_free r) (is_opened r (engine_of k w.table)) y).0)
  plan_steps (event.Close tx name) = steps_when k (event.Close tx name) (may_close r name) _ (λ y. close_steps (event.Close tx name) name (answer k name (call.Close r.label)) (and_parts (comes_next (close_of name) (todo r)) _ y).0)
  plan_steps (event.Draw tx name) = steps_when k (event.Draw tx name) (may_draw r name) _
      (λ y. draw_steps (event.Draw tx name) name (drawn (counter name k.regs) (floor_in k r name)) (and_parts (comes_next (draw_of name) (todo r)) _ (and_parts _ _ y).0).0)
  plan_steps (event.Check tx) = steps_when k (event.Check tx) (may_check r) _ (λ y. check_steps (event.Check tx) r.drew.mem r.drew.store (and_parts (comes_next names.Check (todo r)) _ y).0)
  plan_steps (event.Stamp tx name) = steps_when k (event.Stamp tx name) (may_stamp_now r name) _ (λ y. stamp_steps (event.Stamp tx name) name (drawn_at name r.drew) (and_parts (comes_next (stamp_of name) (todo r)) _ y).0)
  plan_steps (event.Leave tx name) = steps_when k (event.Leave tx name) (may_leave r) _ (λ y. over_is _ (left_can (is_some (opening_of (table_of k (other name)) r.label))) (left_fits (recorded k (event.Leave tx name) (leave_plan k r name)) (is_some (opening_of (table_of k (other name)) r.label))))
  plan_steps event.Cut = tt
  plan_steps event.FlushStep = tt
  plan_steps (event.Purge name) = tt
  plan_steps event.Stop = tt
  plan_steps event.Reopen = tt

begin_steps : (k : Core) (tx : Label) (kind : TxKind) → Steps k (event.Begin tx kind) (begin_plan k tx kind)
begin_steps k tx kind.Cross = go (answer k Mem (call.Open tx k.regs.mem))
  where
    quiet : (e : EngineTable) (name : EngineName) → NoEnds tx (calls_in name (calls_on Mem (entered e (call.Open tx k.regs.mem ∷ [])) ++ []))
    quiet e Mem = (refl, tt)
    quiet e Store = tt

    go : (a : EngineReply) → Steps k (event.Begin tx kind.Cross) (begin_mem k tx kind.Cross a)
    go Done = record { fits = tt; still = λ name u c s d. quiet (table_of k Mem) name }
    go (Fault f) = tt
    go (Found row) = tt
    go (Rows rows) = tt
    go (Number n) = tt
    go (Commits cs) = tt
begin_steps k tx kind.Mem = go (answer k Mem (call.Open tx k.regs.mem))
  where
    quiet : (e : EngineTable) (name : EngineName) → NoEnds tx (calls_in name (calls_on Mem (entered e (call.Open tx k.regs.mem ∷ [])) ++ []))
    quiet e Mem = (refl, tt)
    quiet e Store = tt

    go : (a : EngineReply) → Steps k (event.Begin tx kind.Mem) (begin_mem k tx kind.Mem a)
    go Done = record { fits = tt; still = λ name u c s d. quiet (table_of k Mem) name }
    go (Fault f) = tt
    go (Found row) = tt
    go (Rows rows) = tt
    go (Number n) = tt
    go (Commits cs) = tt
begin_steps k tx kind.Store = record { fits = tt; still = λ name u c s d. tt }

-- ---- all events

abbrev pub Stepped : Core → Type 0
Stepped k = AllByRecursion IsStepping k.actors

module _ (k : Core) (inv : Invariant k) (ready : Readied k) (h : Stepped k) where
  taken_steps : (e : Event) (o : Option Plan) → Steps k e o → Stepped (taken k e o).core
  taken_steps e None q = h
  taken_steps e (Some p) q = cond_both (lets k p.calls) _ (not_now k) (λ (n : Next). Stepped n.core)
      (λ y. each_put_actor IsStepping (recorded k e p) k.actors q (each_weaker IsStepping (Other IsStepping (recorded k e p)) (λ x i f. i) k.actors h) inv.linked.distinct)
      (λ f. h)

  label_steps : (tx : Label) (e : Event) → Steps k e (plan_new k e) → Stepped (for_label k tx e).core
  label_steps tx e new = taken_steps e (plan_with k (actor_in tx k.actors) e) (found (actor_in tx k.actors) refl)
    where
      found : (o : Option Actor) → actor_in tx k.actors ≡ o → Steps k e (plan_with k o e)
      found None q = new
      found (Some r) q =
          let i : In r k.actors = (actor_found tx k.actors r q).0 in
          plan_steps k r (each_in IsReady k.actors r ready.actors i) (each_in IsStepping k.actors r h i) e

  flushed_steps : (f : Flush) (n : ℕ) → Stepped (flushed k f n).core
  flushed_steps f zero = h
  flushed_steps f (suc zero) = h
  flushed_steps f (suc (suc n)) = h

  flush_steps : (o : Option Flush) → Stepped (flush_step k o).core
  flush_steps None = h
  flush_steps (Some f) = flushed_steps f f.left

  cut_steps : (j : Core) → Stepped j → (o : Option Point) → Stepped (cut_taken j o).core
  cut_steps j a None = a
  cut_steps j a (Some q) = cond_both (is_greater q j.durable) _ _ (λ (n : Next). Stepped n.core) (λ y. a) (λ f. a)

  live_steps : (e : Event) → Stepped (live_step k e).core
  live_steps (event.Begin tx kind) = label_steps tx (event.Begin tx kind) (steps_when k (event.Begin tx kind) (is_next tx k.actors) _ (λ y. begin_steps k tx kind))
  live_steps (event.Select tx) = label_steps tx (event.Select tx) tt
  live_steps (event.OpenStore tx) = label_steps tx (event.OpenStore tx) tt
  live_steps (event.Read tx t key) = label_steps tx (event.Read tx t key) tt
  live_steps (event.Put tx w) = label_steps tx (event.Put tx w) tt
  live_steps (event.Close tx name) = label_steps tx (event.Close tx name) tt
  live_steps (event.Draw tx name) = label_steps tx (event.Draw tx name) tt
  live_steps (event.Check tx) = label_steps tx (event.Check tx) tt
  live_steps (event.Stamp tx name) = label_steps tx (event.Stamp tx name) tt
  live_steps (event.Leave tx name) = label_steps tx (event.Leave tx name) tt
  live_steps event.Cut = cond_both (may_cut k.flush) (cut_next k) (not_now k) (λ (n : Next). Stepped n.core)
      (λ y. cut_steps (cut_core k) h (greatest_within (horizon_of (table_of k Mem)) (horizon_of (table_of k Store)) None (live_of (cut_core k).regs))) (λ y. h)
  live_steps event.FlushStep = flush_steps k.flush
  live_steps (event.Purge name) = h
  live_steps event.Stop = h
  live_steps event.Reopen = h

  stopped_steps : (e : Event) → Stepped (stopped_step k e).core
  stopped_steps event.Reopen = tt
  stopped_steps e = h

  step_steps : (e : Event) → Stepped (step k e).core
  step_steps e = cond_both k.stopped (stopped_step k e) (live_step k e) (λ (n : Next). Stepped n.core) (λ y. stopped_steps e) (λ y. live_steps e)

run_steps : (k : Core) (es : List Event) → Invariant k → Readied k → Stepped k → Stepped (run k es)
run_steps k [] inv ready h = h
run_steps k (e ∷ es) inv ready h = run_steps (step k e).core es (step_keeps k inv e) (step_ready k inv ready e) (step_steps k inv ready h e)

pub all_stepped : (s : Start) (events : List Event) → Stepped (ran s events)
all_stepped s events = run_steps (core_at s.catalog s.rows s.first s.partitions s.size) events (starts_well s.catalog s.rows s.first s.partitions s.size s.can_start s.sorted) (record { actors = tt; flush = tt }) tt
