-- What a session asks for is of its live transaction, and fits its facts.
use Rattle.std.specs.Prelude.{◌≡◌, ℕ, List, map, Option, Some, None, Bool, true, false, ◌&&◌, is_some, slice_get}
use Rattle.std.proofs.Common.{refl, ap, subst, ◌∙◌}
use Rattle.std.specs.List.{list_any}
use Rattle.sk_rows.specs.declared.table.Table.{Table}
use Rattle.sk_rows.specs.declared.value.Value.{Value}
use Rattle.sk_model.specs.declared.commit.Write.{Write}
use Rattle.sk_model.specs.declared.engine.EngineName.{EngineName}
use Rattle.sk_model.specs.declared.engine.EngineName.TheVariants.{Mem, Store}
use Rattle.sk_model.specs.declared.label.Label.{Label}
use Rattle.sk_model.specs.declared.record.Record.{Record}
use Rattle.sk_model.specs.declared.reply.Reply.{Reply}
use Rattle.sk_model.specs.declared.step.StepName.TheVariants.{CloseMem, CloseStore, DrawMem, DrawStore, Check, StampMem, StampStore}
use Rattle.sk_model.specs.declared.call.EngineCall.{EngineCall}
use Rattle.sk_model.specs.declared.call.EngineCall.TheVariants as call
use Rattle.sk_model.specs.declared.call.EngineFault.TheVariants as fault
use Rattle.sk_model.specs.declared.call.EngineReply.{EngineReply}
use Rattle.sk_model.specs.declared.call.EngineReply.TheVariants as answer
use Rattle.sk_model.specs.Asking.{first_engine, read_call, put_call}
use Rattle.sk_model.specs.Talks.{Talk, tx_of}
use Rattle.sk_model.specs.RecordTalks.{number_or_none, commit_steps, is_draw_mem, is_draw_store}
use Rattle.sk_commit.specs.declared.asking.Wish.{Wish}
use Rattle.sk_commit.specs.declared.asking.Wish.TheVariants as wish
use Rattle.sk_commit.specs.declared.asking.Got.{Got}
use Rattle.sk_commit.specs.declared.asking.Got.TheVariants as given
use Rattle.sk_commit.specs.declared.committing.Committing.{Committing}
use Rattle.sk_commit.specs.declared.committing.Stage.{Stage}
use Rattle.sk_commit.specs.declared.committing.Stage.TheVariants.{Step, Leave}
use Rattle.sk_commit.specs.Committing.{leave_call, wish_in, wish_of}
use Rattle.sk_commit.specs.Fits.{made_call, own_call}
use Rattle.sk_commit.specs.Told.{steps_before}
use Rattle.sk_session.specs.declared.live.Live.{Live}
use Rattle.sk_session.specs.declared.live.Job.{Job}
use Rattle.sk_session.specs.declared.live.Job.TheVariants as job
use Rattle.sk_session.specs.declared.live.At.{At}
use Rattle.sk_session.specs.declared.live.At.TheVariants as at
use Rattle.sk_session.specs.declared.session.Session.{Session}
use Rattle.sk_session.specs.Moving.{snapshot_of, on, counter_wish, put_wish, wished, record_now, with_last}
use Rattle.sk_session.specs.Speaks.{Commits, JobSpeaks}
use Rattle.sk_session.specs.EachTalk.{OrderlyJob, IsOrderly, HasTalks}
use Rattle.sk_session.specs.Facts.{Facts, facts_of, FitsFacts, AreBy, AsksAt, AsksRight}
use Rattle.sk_session.specs.SoFar.{so_far}
use Rattle.sk_session.proofs.Waiting.{has_anchor}
use Rattle.sk_session.proofs.SoFar.{live_facts}
use Rattle.sk_session.proofs.Changed.{last_facts}
use Rattle.sk_session.proofs.Exchanging.{wished_asked}

-- ---- whose calls they are

made_by : (tx : Label) (e : EngineName) (asked : EngineCall) (x : EngineReply) → tx_of asked ≡ Some tx → AreBy tx (made_call e asked x)
made_by tx e asked (answer.Fault fault.NoMemory) is = tt
made_by tx e asked _ is = (is, tt)

-- the engine calls of a wish are of this transaction
abbrev IsBy : Label → Wish → Type 0
IsBy tx w = (got : Got) → AreBy tx (own_call w got)

mem_by : (tx : Label) (asked : EngineCall) → tx_of asked ≡ Some tx → IsBy tx (wish.Mem asked)
mem_by tx asked is (given.Engine x) = made_by tx Mem asked x is
mem_by tx asked is (given.Reg r) = tt

store_by : (tx : Label) (asked : EngineCall) → tx_of asked ≡ Some tx → IsBy tx (wish.Store asked)
store_by tx asked is (given.Engine x) = made_by tx Store asked x is
store_by tx asked is (given.Reg r) = tt

on_by : (tx : Label) (e : EngineName) (asked : EngineCall) → tx_of asked ≡ Some tx → IsBy tx (on e asked)
on_by tx Mem asked is = mem_by tx asked is
on_by tx Store asked is = store_by tx asked is

counter_by : (tx : Label) (e : EngineName) → IsBy tx (counter_wish e)
counter_by tx Mem got = tt
counter_by tx Store got = tt

read_by : (tx : Label) (t : ℕ) (key : Option Value) → tx_of (read_call tx t key) ≡ Some tx
read_by tx t None = refl
read_by tx t (Some key) = refl

put_by : (live : Live) (e : EngineName) (o : Option Write) → IsBy live.label (put_wish live e o)
put_by live e None = on_by live.label e (call.DropTx live.label) refl
put_by live e (Some w) = on_by live.label e (put_call live.label w) refl

leave_by : (tx : Label) (n : Option ℕ) → tx_of (leave_call tx n) ≡ Some tx
leave_by tx None = refl
leave_by tx (Some n) = refl

stage_by : (c : Committing) (stage : Stage) → IsBy c.label (wish_in c stage)
stage_by c (Step CloseMem) = mem_by c.label (call.Close c.label) refl
stage_by c (Step CloseStore) = store_by c.label (call.Close c.label) refl
stage_by c (Step DrawMem) = λ got. tt
stage_by c (Step DrawStore) = λ got. tt
stage_by c (Step Check) = λ got. tt
stage_by c (Step StampMem) = mem_by c.label (call.Stamp c.label (number_or_none c.mem)) refl
stage_by c (Step StampStore) = store_by c.label (call.Stamp c.label (number_or_none c.store)) refl
stage_by c (Leave refused Mem end) = mem_by c.label (leave_call c.label c.mem) (leave_by c.label c.mem)
stage_by c (Leave refused Store end) = store_by c.label (leave_call c.label c.store) (leave_by c.label c.store)

wished_by : (catalog : List Table) (live : Live) (doing : Job) (talk : Talk) → JobSpeaks catalog live doing talk → IsBy live.label (wished live doing)
unfolding wish_of
wished_by catalog live job.Count talk w = counter_by live.label (first_engine live.kind)
wished_by catalog live (job.Open e n) talk w = on_by live.label e (call.Open live.label n) refl
wished_by catalog live job.Select talk w = λ got. tt
wished_by catalog live (job.Read e t key) talk w = on_by live.label e (read_call live.label t key) (read_by live.label t key)
wished_by catalog live (job.Put e writes done r) talk w = put_by live e (slice_get writes done)
wished_by catalog live (job.Commit c whole own) talk w = subst (λ l. IsBy l (wish_in c c.stage)) w.0.label (stage_by c c.stage)
wished_by catalog live (job.Leave e how r lost) talk w = on_by live.label e (call.DropTx live.label) refl

-- ---- they fit the facts

counter_fits : (f : Facts) (e : EngineName) → FitsFacts f (counter_wish e)
counter_fits f Mem = tt
counter_fits f Store = tt

read_fits : (f : Facts) (tx : Label) (e : EngineName) (t : ℕ) (key : Option Value) → FitsFacts f (on e (read_call tx t key))
read_fits f tx Mem t None = tt
read_fits f tx Mem t (Some key) = tt
read_fits f tx Store t None = tt
read_fits f tx Store t (Some key) = tt

drop_fits : (f : Facts) (tx : Label) (e : EngineName) → FitsFacts f (on e (call.DropTx tx))
drop_fits f tx Mem = tt
drop_fits f tx Store = tt

put_fits : (f : Facts) (live : Live) (e : EngineName) (o : Option Write) → FitsFacts f (put_wish live e o)
put_fits f live e None = drop_fits f live.label e
put_fits f live Mem (Some w) = tt
put_fits f live Store (Some w) = tt

left_mem_fits : (f : Facts) (tx : Label) (n : Option ℕ) → FitsFacts f (wish.Mem (leave_call tx n))
left_mem_fits f tx None = tt
left_mem_fits f tx (Some n) = tt

left_store_fits : (f : Facts) (tx : Label) (n : Option ℕ) → FitsFacts f (wish.Store (leave_call tx n))
left_store_fits f tx None = tt
left_store_fits f tx (Some n) = tt

open_fits : (live : Live) (e : EngineName) (n : ℕ) → snapshot_of live e ≡ None → OrderlyJob live (job.Open e n) → FitsFacts (live_facts live) (on e (call.Open live.label n))
open_fits live Mem n none o = (none, o.0)
open_fits live Store n none o = none

-- ---- the numbers of a commit

none_of : (o : Option ℕ) → is_some o ≡ false → o ≡ None
none_of None e = refl
none_of (Some n) e = absurd cc

undrawn_mem : (wm ws : Bool) → list_any is_draw_mem (steps_before DrawMem (commit_steps wm ws)) ≡ false
undrawn_mem true true = refl
undrawn_mem true false = refl
undrawn_mem false true = refl
undrawn_mem false false = refl

-- the memory engine draws first
undrawn_yet : (wm ws : Bool) → wm ≡ true → list_any is_draw_store (steps_before DrawMem (commit_steps wm ws)) ≡ false
undrawn_yet true true e = refl
undrawn_yet true false e = refl
undrawn_yet false ws e = absurd cc

undrawn_store : (wm ws : Bool) → list_any is_draw_store (steps_before DrawStore (commit_steps wm ws)) ≡ false
undrawn_store true true = refl
undrawn_store true false = refl
undrawn_store false true = refl
undrawn_store false false = refl

-- both are drawn before the check
both_drawn : (wm ws : Bool) → (wm && ws) ≡ true → (list_any is_draw_mem (steps_before Check (commit_steps wm ws)) ≡ true) × (list_any is_draw_store (steps_before Check (commit_steps wm ws)) ≡ true)
both_drawn true true e = (refl, refl)
both_drawn true false e = absurd cc
both_drawn false ws e = absurd cc

module _ (catalog : List Table) (live : Live) (c : Committing) (own : Option Reply) (talk : Talk) where
  abbrev IsIn : Stage → Type 0
  IsIn stage = Commits catalog live (record c { stage = stage }) own talk

  check_fits : IsIn (Step Check) → FitsFacts (live_facts live) (wish_in c (Step Check))
  check_fits w =
      let both = both_drawn c.used.wrote_mem c.used.wrote_store w.underway.stage in
      (w.drew_mem ∙ has_anchor c.mem (w.underway.mem_drawn ∙ both.0), w.drew_store ∙ has_anchor c.store (w.underway.store_drawn ∙ both.1))

  stage_fits : (stage : Stage) → IsIn stage → FitsFacts (live_facts live) (wish_in c stage)
  stage_fits (Step CloseMem) w = tt
  stage_fits (Step CloseStore) w = tt
  stage_fits (Step DrawMem) w = (
    w.drew_mem ∙ none_of c.mem (w.underway.mem_drawn ∙ undrawn_mem c.used.wrote_mem c.used.wrote_store),
    w.drew_store ∙ none_of c.store (w.underway.store_drawn ∙ undrawn_yet c.used.wrote_mem c.used.wrote_store w.underway.stage),
  )
  stage_fits (Step DrawStore) w = w.drew_store ∙ none_of c.store (w.underway.store_drawn ∙ undrawn_store c.used.wrote_mem c.used.wrote_store)
  stage_fits (Step Check) w = check_fits w
  stage_fits (Step StampMem) w = tt
  stage_fits (Step StampStore) w = tt
  stage_fits (Leave refused Mem end) w = left_mem_fits (live_facts live) c.label c.mem
  stage_fits (Leave refused Store end) w = left_store_fits (live_facts live) c.label c.store

pub wished_fits : (catalog : List Table) (live : Live) (doing : Job) (talk : Talk) → JobSpeaks catalog live doing talk → OrderlyJob live doing → FitsFacts (live_facts live) (wished live doing)
unfolding wish_of
wished_fits catalog live job.Count talk w o = counter_fits (live_facts live) (first_engine live.kind)
wished_fits catalog live (job.Open e n) talk w o = open_fits live e n w.knows.0 o
wished_fits catalog live job.Select talk w o = (has_anchor live.mem w.knows.1, w.knows.0)
wished_fits catalog live (job.Read e t key) talk w o = read_fits (live_facts live) live.label e t key
wished_fits catalog live (job.Put e writes done r) talk w o = put_fits (live_facts live) live e (slice_get writes done)
wished_fits catalog live (job.Commit c whole own) talk w o = stage_fits catalog live c own talk c.stage w.0
wished_fits catalog live (job.Leave e how r lost) talk w o = drop_fits (live_facts live) live.label e

at_asks : (catalog : List Table) (number : ℕ) (records : List Record) (there : At) (talks : List Talk) → HasTalks catalog number records there talks → IsOrderly there → AsksAt (map facts_of (so_far records there)) there
at_asks catalog number records at.Outside talks h o = tt
at_asks catalog number records at.Ended talks h o = tt
at_asks catalog number records (at.Inside live) talks h o = tt
at_asks catalog number records (at.Stepping live c) talks h o = tt
at_asks catalog number records (at.Asking live doing) talks h o = record {
  before = map facts_of h.1.front;
  last = live_facts live;
  all_are = ap (λ rs. map facts_of (with_last rs (record_now live))) h.1.records_are ∙ last_facts h.1.front h.1.open_record (record_now live);
  label_is = refl;
  may = wished_asked live doing;
  by = wished_by catalog live doing h.0 h.2;
  fits = wished_fits catalog live doing h.0 h.2 o;
}

pub asks_right : (catalog : List Table) (s : Session) → AsksRight catalog s
asks_right catalog s talks h = at_asks catalog s.number s.records s.at talks h.0 h.1
