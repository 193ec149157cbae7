-- Where each event is lawful, as its actor stands.
use Rattle.std.specs.Prelude.{List, Option, Some, None, Bool, true, false, cond, not, ◌&&◌, ◌≡◌, is_some}
use Rattle.sk_model.specs.declared.step.StepName.TheVariants as names
use Rattle.sk_model.specs.Engine.{opening_of}
use Rattle.sk_model.specs.EngineConditions.{may}
use Rattle.sk_linked.specs.declared.event.Event.{Event}
use Rattle.sk_linked.specs.declared.event.Event.TheVariants as event
use Rattle.sk_linked.specs.State.{Actor, Core, table_of}
use Rattle.sk_linked.specs.Plans.{is_running, is_over, is_cross, is_undrawn, engine_of, read_call, put_call, close_of, draw_of, stamp_of, todo, comes_next, actor_in, is_next}
use Rattle.sk_linked.specs.declared.event.CoreReply.{CoreReply}
use Rattle.sk_linked.specs.declared.event.CoreReply.TheVariants as reply
use Rattle.sk_linked.specs.Machine.{may_cut, not_now, step}
use Rattle.sk_linked.specs.Runs.{Start, ran}

-- for a transaction that is there
abbrev pub is_lawful_for : Core → Actor → Event → Bool
is_lawful_for k r (event.Begin tx kind) = false
is_lawful_for k r (event.Select tx) = is_running r.stage && (is_cross r.kind && not (is_some r.chosen))
is_lawful_for k r (event.OpenStore tx) = is_running r.stage && (is_some r.chosen && not (is_some r.opened.store))
is_lawful_for k r (event.Read tx t key) = is_running r.stage && may (table_of k (engine_of k t)) (read_call r.label t key)
is_lawful_for k r (event.Put tx w) = is_running r.stage && may (table_of k (engine_of k w.table)) (put_call r.label w)
is_lawful_for k r (event.Close tx name) = comes_next (close_of name) (todo r)
is_lawful_for k r (event.Draw tx name) = comes_next (draw_of name) (todo r)
is_lawful_for k r (event.Check tx) = comes_next names.Check (todo r)
is_lawful_for k r (event.Stamp tx name) = comes_next (stamp_of name) (todo r)
is_lawful_for k r (event.Leave tx name) = (not (is_over r.stage) && is_undrawn r) && is_some (opening_of (table_of k name) r.label)
is_lawful_for k r event.Cut = false
is_lawful_for k r event.FlushStep = false
is_lawful_for k r (event.Purge name) = false
is_lawful_for k r event.Stop = false
is_lawful_for k r event.Reopen = false

abbrev pub is_lawful_in : Core → Option Actor → Event → Bool
is_lawful_in k None e = false
is_lawful_in k (Some r) e = is_lawful_for k r e

-- while the machine runs
abbrev pub is_lawful_now : Core → Event → Bool
is_lawful_now k (event.Begin tx kind) = is_next tx k.actors
is_lawful_now k (event.Select tx) = is_lawful_in k (actor_in tx k.actors) (event.Select tx)
is_lawful_now k (event.OpenStore tx) = is_lawful_in k (actor_in tx k.actors) (event.OpenStore tx)
is_lawful_now k (event.Read tx t key) = is_lawful_in k (actor_in tx k.actors) (event.Read tx t key)
is_lawful_now k (event.Put tx w) = is_lawful_in k (actor_in tx k.actors) (event.Put tx w)
is_lawful_now k (event.Close tx name) = is_lawful_in k (actor_in tx k.actors) (event.Close tx name)
is_lawful_now k (event.Draw tx name) = is_lawful_in k (actor_in tx k.actors) (event.Draw tx name)
is_lawful_now k (event.Check tx) = is_lawful_in k (actor_in tx k.actors) (event.Check tx)
is_lawful_now k (event.Stamp tx name) = is_lawful_in k (actor_in tx k.actors) (event.Stamp tx name)
is_lawful_now k (event.Leave tx name) = is_lawful_in k (actor_in tx k.actors) (event.Leave tx name)
is_lawful_now k event.Cut = may_cut k.flush
is_lawful_now k event.FlushStep = is_some k.flush
is_lawful_now k (event.Purge name) = true
is_lawful_now k event.Stop = true
is_lawful_now k event.Reopen = false

abbrev pub is_reopen : Event → Bool
is_reopen (event.Begin tx kind) = false
is_reopen (event.Select tx) = false
is_reopen (event.OpenStore tx) = false
is_reopen (event.Read tx t key) = false
is_reopen (event.Put tx w) = false
is_reopen (event.Close tx name) = false
is_reopen (event.Draw tx name) = false
is_reopen (event.Check tx) = false
is_reopen (event.Stamp tx name) = false
is_reopen (event.Leave tx name) = false
is_reopen event.Cut = false
is_reopen event.FlushStep = false
is_reopen (event.Purge name) = false
is_reopen event.Stop = false
is_reopen event.Reopen = true

-- after a stop only an opening is
abbrev pub is_lawful : Core → Event → Bool
is_lawful k e = cond k.stopped (is_reopen e) (is_lawful_now k e)

-- an event that is not lawful is answered so, and changes nothing
abbrev pub UnlawfulIsNotNow : Type 0
UnlawfulIsNotNow = (k : Core) (e : Event) → is_lawful k e ≡ false → step k e ≡ not_now k

abbrev pub is_not_now : CoreReply → Bool
is_not_now reply.Done = false
is_not_now (reply.Number n) = false
is_not_now (reply.Rows rows) = false
is_not_now (reply.Point p) = false
is_not_now (reply.Refused f) = false
is_not_now (reply.CheckFailed p) = false
is_not_now (reply.Recycled r) = false
is_not_now reply.Spent = false
is_not_now reply.NotNow = true
is_not_now reply.NoMemory = false

-- in every run an event that is lawful is answered otherwise
abbrev pub LawfulIsTaken : Type 0
LawfulIsTaken = (s : Start) (events : List Event) (e : Event) → is_lawful (ran s events) e ≡ true → is_not_now (step (ran s events) e).reply ≡ false
