-- What each event of a transaction is to do, where it is lawful: the reply, the calls on each engine, and what it leaves of the registry and of the transaction.
use Rattle.std.specs.Prelude.{ℕ, List, [], ◌∷◌, ◌++◌, Option, Some, None, Result, Ok, Err, Bool, true, false, cond, not, ◌&&◌, ◌||◌, ◌==◌, ◌+◌, length, is_some}
use Rattle.std.specs.List.{filter, list_any}
use Rattle.sk_rows.specs.declared.value.Value.{Value}
use Rattle.sk_model.specs.declared.label.Label.{Label}
use Rattle.sk_model.specs.declared.engine.EngineName.{EngineName}
use Rattle.sk_model.specs.declared.engine.EngineName.TheVariants.{Mem, Store}
use Rattle.sk_model.specs.declared.record.TxKind.{TxKind}
use Rattle.sk_model.specs.declared.record.TxKind.TheVariants as kind
use Rattle.sk_model.specs.declared.record.Ending.{Ending}
use Rattle.sk_model.specs.declared.record.Ending.TheVariants as ending
use Rattle.sk_model.specs.declared.commit.Write.{Write}
use Rattle.sk_model.specs.declared.point.Point.{Point}
use Rattle.sk_model.specs.declared.point.Recycled.{Recycled}
use Rattle.sk_model.specs.declared.step.StepName.{StepName}
use Rattle.sk_model.specs.declared.step.StepName.TheVariants as step
use Rattle.sk_model.specs.declared.call.EngineCall.{EngineCall}
use Rattle.sk_model.specs.declared.call.EngineCall.TheVariants as call
use Rattle.sk_model.specs.declared.call.EngineReply.{EngineReply}
use Rattle.sk_model.specs.declared.call.EngineReply.TheVariants.{Done, Found, Rows, Number, Fault}
use Rattle.sk_model.specs.Database.{RowOf, KeyedRows}
use Rattle.sk_model.specs.Records.{same_label}
use Rattle.sk_model.specs.Engine.{keeps, opening_of}
use Rattle.sk_model.specs.EngineConditions.{floor_of}
use Rattle.sk_model.specs.Legal.{due}
use Rattle.sk_weave.specs.declared.answer.Selected.{Selected}
use Rattle.sk_weave.specs.declared.answer.DrawFault.{DrawFault}
use Rattle.sk_weave.specs.declared.answer.DrawFault.TheVariants.{Spent, Early}
use Rattle.sk_weave.specs.Points.{selection, commit_point}
use Rattle.sk_weave.specs.Registry.{Regs, last_of, selected, after_selection, drawn, after_draw_mem, after_draw_store, passes, after_check}
use Rattle.sk_linked.specs.Reads.{snapshot_at}
use Rattle.sk_linked.specs.declared.event.Event.{Event}
use Rattle.sk_linked.specs.declared.event.Event.TheVariants as event
use Rattle.sk_linked.specs.declared.event.CoreReply.{CoreReply}
use Rattle.sk_linked.specs.declared.event.CoreReply.TheVariants as reply
use Rattle.sk_linked.specs.Traces.{Drawn, drawn_at}
use Rattle.sk_linked.specs.State.{Both, of, with_of, other, Stage, Running, Stepping, Leaving, Over, Actor, Core, table_of, counter}

-- what an event is to do
pub record Plan : Type 0 where
  pub reply : CoreReply
  pub calls : Both (List EngineCall)
  pub regs : Regs
  pub who : Actor

abbrev pub when : Bool → Plan → Option Plan
when b p = cond b (Some p) None

abbrev pub nothing : Both (List EngineCall)
nothing = record { mem = []; store = [] }

abbrev pub only : EngineName → List EngineCall → Both (List EngineCall)
only name cs = with_of name cs nothing

-- the right reply of an engine to a call now
abbrev pub answer : Core → EngineName → EngineCall → EngineReply
answer k name c = due (table_of k name) c

-- ---- how a transaction stands

abbrev pub is_running : Stage → Bool
is_running Running = true
is_running (Stepping steps) = false
is_running Leaving = false
is_running Over = false

abbrev pub is_over : Stage → Bool
is_over Running = false
is_over (Stepping steps) = false
is_over Leaving = false
is_over Over = true

abbrev pub is_cross : TxKind → Bool
is_cross kind.Cross = true
is_cross kind.Mem = false
is_cross kind.Store = false

-- it has drawn nothing and is not committed
abbrev pub is_undrawn : Actor → Bool
is_undrawn r = not r.committed && (not (is_some r.drew.mem) && not (is_some r.drew.store))

-- and it is closed nowhere
abbrev pub is_untouched : Actor → Bool
is_untouched r = is_undrawn r && (not r.shut.mem && not r.shut.store)

-- it may read and write: no commit step was taken
abbrev pub is_free : Actor → Bool
is_free r = is_running r.stage && is_untouched r

abbrev pub both_false : Both Bool
both_false = record { mem = false; store = false }

-- it opened the engine
abbrev pub is_opened : Actor → EngineName → Bool
is_opened r name = is_some (snapshot_at name r.opened)

-- it is over, with this ending
abbrev pub ended : Ending → Actor → Actor
ended e r = record r { stage = Over; shut = both_false; ending = e }

-- it is dropped where it is open
abbrev pub drops : Core → Actor → EngineName → List EngineCall
drops k r name = cond (is_some (opening_of (table_of k name) r.label)) (call.DropTx r.label ∷ []) []

-- ---- Begin

abbrev pub newcomer : Core → Label → TxKind → Option ℕ → Option ℕ → Actor
newcomer k tx kind mem chosen = record {
  label = tx;
  kind = kind;
  seen = record { mem = k.regs.mem; store = k.regs.store };
  chosen = chosen;
  opened = record { mem = mem; store = None };
  wrote = both_false;
  drew = record { mem = None; store = None };
  shut = both_false;
  committed = false;
  stage = Running;
  ending = ending.Open;
  made = [];
  did = [];
  talk = [];
}

-- the memory engine is opened at once
abbrev pub begin_mem : Core → Label → TxKind → EngineReply → Option Plan
begin_mem k tx kind Done = Some (record { reply = reply.Number k.regs.mem; calls = only Mem (call.Open tx k.regs.mem ∷ []); regs = k.regs; who = newcomer k tx kind (Some k.regs.mem) None })
begin_mem k tx kind answered = None

abbrev pub begin_plan : Core → Label → TxKind → Option Plan
begin_plan k tx kind.Cross = begin_mem k tx kind.Cross (answer k Mem (call.Open tx k.regs.mem))
begin_plan k tx kind.Mem = begin_mem k tx kind.Mem (answer k Mem (call.Open tx k.regs.mem))
begin_plan k tx kind.Store = Some (record { reply = reply.Number k.regs.store; calls = nothing; regs = k.regs; who = newcomer k tx kind.Store None (Some k.regs.store) })

-- ---- Select

abbrev pub made_if : Bool → Point → List Point
made_if made p = cond made (p ∷ []) []

abbrev pub select_plan : Core → Actor → ℕ → Result Selected Recycled → Plan
select_plan k r a (Ok s) = record { reply = reply.Number s.b; calls = nothing; regs = after_selection k.regs a k.regs.store; who = record r { chosen = Some s.b; made = r.made ++ made_if s.made (selection a s.b) } }
select_plan k r a (Err e) = record { reply = reply.Recycled e; calls = only Mem (drops k r Mem); regs = k.regs; who = ended ending.Recycled r }

abbrev pub selects : Core → Actor → Option ℕ → Option ℕ → Option Plan
selects k r (Some a) None = Some (select_plan k r a (selected k.regs a k.regs.store))
selects k r (Some a) (Some b) = None
selects k r None chosen = None

-- ---- OpenStore

abbrev pub open_plan : Core → Actor → ℕ → EngineReply → Option Plan
open_plan k r b Done = Some (record { reply = reply.Done; calls = only Store (call.Open r.label b ∷ []); regs = k.regs; who = record r { opened = record r.opened { store = Some b } } })
open_plan k r b (Fault f) = Some (record { reply = reply.Refused f; calls = record { mem = drops k r Mem; store = call.Open r.label b ∷ [] }; regs = k.regs; who = ended ending.Old r })
open_plan k r b answered = None

abbrev pub opens_store : Core → Actor → Option ℕ → Option ℕ → Option Plan
opens_store k r (Some b) None = open_plan k r b (answer k Store (call.Open r.label b))
opens_store k r (Some b) (Some s) = None
opens_store k r None opened = None

-- ---- Read and Put

abbrev pub engine_of : Core → ℕ → EngineName
engine_of k t = cond (keeps Store k.catalog t) Store Mem

abbrev pub read_call : Label → ℕ → Option Value → EngineCall
read_call tx t (Some key) = call.Get tx t key
read_call tx t None = call.Scan tx t

-- the rows of a key, of which there is one or none
abbrev pub found_rows : Option Value → Option RowOf → KeyedRows
found_rows (Some key) (Some row) = (key, row) ∷ []
found_rows (Some key) None = []
found_rows None row = []

abbrev pub reads : Actor → Core → EngineName → EngineCall → CoreReply → Plan
reads r k name c said = record { reply = said; calls = only name (c ∷ []); regs = k.regs; who = r }

abbrev pub read_plan : Core → Actor → EngineName → Option Value → EngineCall → EngineReply → Option Plan
read_plan k r name key c (Found row) = Some (reads r k name c (reply.Rows (found_rows key row)))
read_plan k r name key c (Rows rows) = Some (reads r k name c (reply.Rows rows))
read_plan k r name key c (Fault f) = Some (reads r k name c (reply.Refused f))
read_plan k r name key c answered = None

abbrev pub put_call : Label → Write → EngineCall
put_call tx w = call.Put tx w.table w.key w.row

abbrev pub put_plan : Core → Actor → EngineName → Write → EngineReply → Option Plan
put_plan k r name w Done = Some (record { reply = reply.Done; calls = only name (put_call r.label w ∷ []); regs = k.regs; who = record r { wrote = with_of name true r.wrote } })
put_plan k r name w (Fault f) = Some (record {
  reply = reply.Refused f;
  calls = with_of name (put_call r.label w ∷ call.DropTx r.label ∷ []) (only (other name) (drops k r (other name)));
  regs = k.regs;
  who = ended ending.Conflict r;
})
put_plan k r name w answered = None

-- ---- the steps of a commit

abbrev pub close_of : EngineName → StepName
close_of Mem = step.CloseMem
close_of Store = step.CloseStore

abbrev pub draw_of : EngineName → StepName
draw_of Mem = step.DrawMem
draw_of Store = step.DrawStore

abbrev pub stamp_of : EngineName → StepName
stamp_of Mem = step.StampMem
stamp_of Store = step.StampStore

-- those of an engine that was not written are left out
abbrev pub steps_of : Both Bool → List StepName
steps_of w = cond w.mem (step.CloseMem ∷ []) [] ++ (cond w.store (step.CloseStore ∷ []) [] ++ (cond w.mem (step.DrawMem ∷ []) [] ++ (cond w.store (step.DrawStore ∷ []) []
    ++ (cond (w.mem && w.store) (step.Check ∷ []) [] ++ (cond w.mem (step.StampMem ∷ []) [] ++ cond w.store (step.StampStore ∷ []) [])))))

abbrev pub steps_in : Both Bool → Stage → List StepName
steps_in w Running = steps_of w
steps_in w (Stepping steps) = steps
steps_in w Leaving = []
steps_in w Over = []

-- its commit steps that are left
abbrev pub todo : Actor → List StepName
todo r = steps_in r.wrote r.stage

-- the place of a step among all seven
abbrev pub step_number : StepName → ℕ
step_number step.CloseMem = 0
step_number step.CloseStore = 1
step_number step.DrawMem = 2
step_number step.DrawStore = 3
step_number step.Check = 4
step_number step.StampMem = 5
step_number step.StampStore = 6

-- the step is the first of these
abbrev pub comes_next : StepName → List StepName → Bool
comes_next x [] = false
comes_next x (y ∷ ys) = step_number x == step_number y

abbrev pub behind : List StepName → List StepName
behind [] = []
behind (y ∷ ys) = ys

abbrev pub is_none : List StepName → Bool
is_none [] = true
is_none (x ∷ xs) = false

abbrev pub stepped : Actor → Actor
stepped r = record r { stage = Stepping (behind (todo r)) }

abbrev pub close_plan : Core → Actor → EngineName → EngineReply → Option Plan
close_plan k r name (Number floor) = Some (record { reply = reply.Number floor; calls = only name (call.Close r.label ∷ []); regs = k.regs; who = record (stepped r) { shut = with_of name true r.shut } })
close_plan k r name answered = None

abbrev pub with_drawn : EngineName → ℕ → Drawn → Drawn
with_drawn Mem n d = record d { mem = Some n }
with_drawn Store n d = record d { store = Some n }

abbrev pub after_draw : EngineName → Regs → ℕ → Regs
after_draw Mem regs floor = after_draw_mem regs floor
after_draw Store regs floor = after_draw_store regs floor

-- a drawn number is void, and where none was drawn the transaction is dropped
abbrev pub voids : Core → Actor → EngineName → Option ℕ → List EngineCall
voids k r name (Some n) = call.Void r.label n ∷ []
voids k r name None = drops k r name

abbrev pub floor_in : Core → Actor → EngineName → ℕ
floor_in k r name = floor_of (opening_of (table_of k name) r.label)

abbrev pub draw_plan : Core → Actor → EngineName → Result ℕ DrawFault → Option Plan
draw_plan k r name (Ok n) = Some (record { reply = reply.Number n; calls = nothing; regs = after_draw name k.regs (floor_in k r name); who = record (stepped r) { drew = with_drawn name n r.drew } })
draw_plan k r name (Err Spent) = Some (record { reply = reply.Spent; calls = record { mem = voids k r Mem r.drew.mem; store = voids k r Store r.drew.store }; regs = k.regs; who = ended ending.Spent r })
draw_plan k r name (Err (Early floor counter)) = None

abbrev pub draws : Core → Actor → EngineName → Option Plan
draws k r name = draw_plan k r name (drawn (counter name k.regs) (floor_in k r name))

abbrev pub check_plan : Core → Actor → ℕ → ℕ → Plan
check_plan k r ca cb = cond (passes k.regs ca cb)
    (record { reply = reply.Point (Some (commit_point ca cb)); calls = nothing; regs = after_check k.regs ca cb; who = record (stepped r) { committed = true; ending = ending.Committed; made = r.made ++ commit_point ca cb ∷ [] } })
    (record { reply = reply.CheckFailed (last_of k.regs.points); calls = record { mem = call.Void r.label ca ∷ []; store = call.Void r.label cb ∷ [] }; regs = k.regs; who = ended ending.CheckFailed r })

abbrev pub checks : Core → Actor → Option ℕ → Option ℕ → Option Plan
checks k r (Some ca) (Some cb) = Some (check_plan k r ca cb)
checks k r (Some ca) None = None
checks k r None cb = None

-- the stage behind a stamp: over, where it was the last step
abbrev pub stage_behind : List StepName → Stage
stage_behind steps = cond (is_none steps) Over (Stepping steps)

-- A stamp. Where the other engine was only read, its opening ends with it.
abbrev pub stamp_plan : Core → Actor → EngineName → ℕ → Plan
stamp_plan k r name n = record {
  reply = reply.Done;
  calls = with_of name (call.Stamp r.label n ∷ []) (only (other name) (cond (is_some (drawn_at (other name) r.drew)) [] (drops k r (other name))));
  regs = k.regs;
  who = record r { committed = true; ending = ending.Committed; shut = cond (is_some (drawn_at (other name) r.drew)) (with_of name false r.shut) both_false; stage = stage_behind (behind (todo r)) };
}

-- it is committed by its point, or it wrote this engine alone
abbrev pub may_stamp_in : Actor → EngineName → Bool
may_stamp_in r name = r.committed || (not (is_some (drawn_at (other name) r.drew)) && not (of (other name) r.wrote))

abbrev pub stamps : Core → Actor → EngineName → Option ℕ → Option Plan
stamps k r name None = None
stamps k r name (Some n) = when (may_stamp_in r name) (stamp_plan k r name n)

-- ---- Leave

abbrev pub stage_left : Bool → Stage
stage_left still_open = cond still_open Leaving Over

abbrev pub leave_plan : Core → Actor → EngineName → Plan
leave_plan k r name = record {
  reply = reply.Done;
  calls = only name (call.DropTx r.label ∷ []);
  regs = k.regs;
  who = record r { stage = stage_left (is_some (opening_of (table_of k (other name)) r.label)); shut = both_false; ending = ending.RolledBack };
}

-- ---- by the event

abbrev pub may_close : Actor → EngineName → Bool
may_close r name = comes_next (close_of name) (todo r) && (is_undrawn r && not (of name r.shut))

-- the memory engine's number is drawn first
abbrev pub in_order : Actor → EngineName → Bool
in_order r Mem = not (is_some r.drew.store)
in_order r Store = true

abbrev pub may_draw : Actor → EngineName → Bool
may_draw r name = (comes_next (draw_of name) (todo r) && in_order r name) && ((of name r.shut && of name r.wrote) && (not r.committed && not (is_some (drawn_at name r.drew))))

abbrev pub may_check : Actor → Bool
may_check r = comes_next step.Check (todo r) && ((r.shut.mem && r.shut.store) && not r.committed)

abbrev pub may_stamp_now : Actor → EngineName → Bool
may_stamp_now r name = comes_next (stamp_of name) (todo r) && of name r.shut

abbrev pub may_leave : Actor → Bool
may_leave r = not (is_over r.stage) && is_undrawn r

-- what the event is to do for the transaction that it names
abbrev pub plan_for : Core → Actor → Event → Option Plan
plan_for k r (event.Begin tx kind) = None
plan_for k r (event.Select tx) = cond (is_free r && is_cross r.kind) (selects k r r.opened.mem r.chosen) None
plan_for k r (event.OpenStore tx) = cond (is_free r) (opens_store k r r.chosen r.opened.store) None
plan_for k r (event.Read tx t key) = cond (is_free r && is_opened r (engine_of k t)) (read_plan k r (engine_of k t) key (read_call r.label t key) (answer k (engine_of k t) (read_call r.label t key))) None
plan_for k r (event.Put tx w) = cond (is_free r && is_opened r (engine_of k w.table)) (put_plan k r (engine_of k w.table) w (answer k (engine_of k w.table) (put_call r.label w))) None
plan_for k r (event.Close tx name) = cond (may_close r name) (close_plan k r name (answer k name (call.Close r.label))) None
plan_for k r (event.Draw tx name) = cond (may_draw r name) (draws k r name) None
plan_for k r (event.Check tx) = cond (may_check r) (checks k r r.drew.mem r.drew.store) None
plan_for k r (event.Stamp tx name) = cond (may_stamp_now r name) (stamps k r name (drawn_at name r.drew)) None
plan_for k r (event.Leave tx name) = when (may_leave r) (leave_plan k r name)
plan_for k r event.Cut = None
plan_for k r event.FlushStep = None
plan_for k r (event.Purge name) = None
plan_for k r event.Stop = None
plan_for k r event.Reopen = None

-- the transaction of a label, where it is there
abbrev pub actor_in : Label → List Actor → Option Actor
actor_in tx [] = None
actor_in tx (r ∷ rs) = cond (same_label tx r.label) (Some r) (actor_in tx rs)

abbrev pub of_session : Label → Actor → Bool
of_session tx r = r.label.session == tx.session

-- the label is its session's next, and no transaction of that session is live
abbrev pub is_next : Label → List Actor → Bool
is_next tx rs = not (list_any (λ r. of_session tx r && not (is_over r.stage)) rs) && (tx.k == length (filter (of_session tx) rs) + 1)

-- for a label that is not there, a Begin alone does something
abbrev pub plan_new : Core → Event → Option Plan
plan_new k (event.Begin tx kind) = cond (is_next tx k.actors) (begin_plan k tx kind) None
plan_new k (event.Select tx) = None
plan_new k (event.OpenStore tx) = None
plan_new k (event.Read tx t key) = None
plan_new k (event.Put tx w) = None
plan_new k (event.Close tx name) = None
plan_new k (event.Draw tx name) = None
plan_new k (event.Check tx) = None
plan_new k (event.Stamp tx name) = None
plan_new k (event.Leave tx name) = None
plan_new k event.Cut = None
plan_new k event.FlushStep = None
plan_new k (event.Purge name) = None
plan_new k event.Stop = None
plan_new k event.Reopen = None

abbrev pub plan_with : Core → Option Actor → Event → Option Plan
plan_with k None e = plan_new k e
plan_with k (Some r) e = plan_for k r e
