-- The machine: what each event makes of its state, and its runs.
use Rattle.std.specs.Prelude.{ℕ, zero, suc, List, [], ◌∷◌, ◌++◌, Option, Some, None, Bool, true, false, cond, not, ◌&&◌, nat_le, min, take, map}
use Rattle.std.specs.List.{filter, list_any}
use Rattle.sk_model.specs.declared.label.Label.{Label}
use Rattle.sk_model.specs.declared.engine.EngineName.{EngineName}
use Rattle.sk_model.specs.declared.engine.EngineName.TheVariants.{Mem, Store}
use Rattle.sk_model.specs.declared.commit.Commit.{Commit}
use Rattle.sk_model.specs.declared.point.Point.{Point}
use Rattle.sk_model.specs.declared.call.EngineCall.{EngineCall}
use Rattle.sk_model.specs.declared.call.EngineCall.TheVariants as call
use Rattle.sk_model.specs.declared.call.Entry.{Entry}
use Rattle.sk_model.specs.Database.{Tables, state}
use Rattle.sk_model.specs.Records.{same_label}
use Rattle.sk_model.specs.Engine.{EngineTable}
use Rattle.sk_model.specs.EngineReplies.{horizon_of, purged_to, commits_between}
use Rattle.sk_model.specs.EngineConditions.{may}
use Rattle.sk_model.specs.Legal.{step as step_entry, due}
use Rattle.sk_model.specs.Talks.{Talk}
use Rattle.sk_weave.specs.Points.{selection}
use Rattle.sk_model.specs.Places.{place}
use Rattle.sk_weave.specs.Registry.{Regs, after_cut, live_of, greatest_within, oldest_of}
use Rattle.sk_linked.specs.Reads.{number_at, order_of}
use Rattle.sk_linked.specs.declared.event.Event.{Event}
use Rattle.sk_linked.specs.declared.event.Event.TheVariants as event
use Rattle.sk_linked.specs.declared.event.CoreReply.{CoreReply}
use Rattle.sk_linked.specs.declared.event.CoreReply.TheVariants as reply
use Rattle.sk_linked.specs.Traces.{run_of}
use Rattle.sk_linked.specs.State.{Both, of, with_of, Actor, Flush, Core, core_at, traces_of, table_of}
use Rattle.sk_linked.specs.Plans.{Plan, is_over, actor_in, plan_with}

-- ---- an event of a transaction

-- the entries that calls leave, one after another
abbrev pub entered : EngineTable → List EngineCall → List Entry
entered e [] = []
entered e (c ∷ cs) = record { call = c; reply = due e c } ∷ entered (step_entry e (record { call = c; reply = due e c })) cs

-- the condition of each holds when it is made
abbrev pub may_all : EngineTable → List EngineCall → Bool
may_all e [] = true
may_all e (c ∷ cs) = may e c && may_all (step_entry e (record { call = c; reply = due e c })) cs

abbrev pub lets : Core → Both (List EngineCall) → Bool
lets k calls = may_all (table_of k Mem) calls.mem && may_all (table_of k Store) calls.store

abbrev pub entries_of : Core → Plan → EngineName → List Entry
entries_of k p name = entered (table_of k name) (of name p.calls)

abbrev pub calls_on : EngineName → List Entry → Talk
calls_on name js = map (λ j. record { engine = name; entry = j }) js

-- what it says: its calls on the memory engine, and then those on the storage engine
abbrev pub talk_of : Core → Plan → Talk
talk_of k p = calls_on Mem (entries_of k p Mem) ++ calls_on Store (entries_of k p Store)

abbrev pub recorded : Core → Event → Plan → Actor
recorded k e p = record p.who { did = p.who.did ++ record { event = e; reply = p.reply } ∷ []; talk = p.who.talk ++ talk_of k p }

-- the transaction takes the place of the one with its label, or stands behind all
abbrev pub put_actor : Actor → List Actor → List Actor
put_actor r [] = r ∷ []
put_actor r (x ∷ xs) = cond (same_label r.label x.label) (r ∷ xs) (x ∷ put_actor r xs)

-- who is committed and over waits for a durable cut
abbrev pub queued : Actor → List Label → List Label
queued r queue = cond (r.committed && is_over r.stage) (queue ++ r.label ∷ []) queue

abbrev pub applied : Core → Event → Plan → Core
applied k e p = record k {
  regs = p.regs;
  journals = record { mem = k.journals.mem ++ entries_of k p Mem; store = k.journals.store ++ entries_of k p Store };
  actors = put_actor (recorded k e p) k.actors;
  queue = queued p.who k.queue;
}

pub record Next : Type 0 where
  pub core : Core
  pub reply : CoreReply

abbrev pub not_now : Core → Next
not_now k = record { core = k; reply = reply.NotNow }

abbrev pub taken : Core → Event → Option Plan → Next
taken k e None = not_now k
taken k e (Some p) = cond (lets k p.calls) (record { core = applied k e p; reply = p.reply }) (not_now k)

abbrev pub for_label : Core → Label → Event → Next
for_label k tx e = taken k e (plan_with k (actor_in tx k.actors) e)

-- ---- a flush, and a purge

-- a call of no transaction
abbrev pub called : Core → EngineName → EngineCall → Core
called k name c = record k { journals = with_of name (of name k.journals ++ record { call = c; reply = due (table_of k name) c } ∷ []) k.journals }

abbrev pub is_upto_cut : Option ℕ → ℕ → Bool
is_upto_cut None n = true
is_upto_cut (Some m) n = nat_le m n

-- the cut is past neither what the transaction saw nor what it drew
abbrev pub is_covered : Point → Actor → Bool
is_covered cut r = (is_upto_cut r.opened.mem cut.a && is_upto_cut r.drew.mem cut.a) && (is_upto_cut r.opened.store cut.b && is_upto_cut r.drew.store cut.b)

abbrev pub covers : List Actor → Point → Label → Bool
covers actors cut tx = list_any (λ r. same_label tx r.label && is_covered cut r) actors

-- who waits still, where a cut is durable
abbrev pub waiting : List Actor → Point → List Label → List Label
waiting actors cut queue = filter (λ tx. not (covers actors cut tx)) queue

abbrev pub is_some_commit : List Commit → Bool
is_some_commit [] = false
is_some_commit (c ∷ cs) = true

-- a flush makes four calls on the device, or six where there are storage bytes
abbrev pub device_calls : Core → Point → ℕ
device_calls k cut = cond (is_some_commit (commits_between (table_of k Store) k.durable.b cut.b)) 6 4

-- the cut is greater than the durable one
abbrev pub is_greater : Point → Point → Bool
is_greater cut durable = not (nat_le cut.a durable.a && nat_le cut.b durable.b)

abbrev pub cut_taken : Core → Option Point → Next
cut_taken k None = record { core = record k { flush = None; queue = waiting k.actors k.durable k.queue }; reply = reply.Point None }
cut_taken k (Some q) = cond (is_greater q k.durable)
    (record { core = record k { flush = Some (record { cut = q; left = device_calls k q; begun = false }) }; reply = reply.Point (Some q) })
    (record { core = record k { flush = None; queue = waiting k.actors k.durable k.queue }; reply = reply.Point (Some q) })

-- the cut of the two horizons
abbrev pub cut_at : Core → ℕ → ℕ → Next
cut_at k x y =
    let regs : Regs = after_cut k.regs x y k.regs.store in
    cut_taken (record k { regs = regs }) (greatest_within x y None (live_of regs))

abbrev pub cut_next : Core → Next
cut_next k = cut_at (called (called k Mem call.Horizon) Store call.Horizon) (horizon_of (table_of k Mem)) (horizon_of (table_of k Store))

abbrev pub may_cut : Option Flush → Bool
may_cut None = true
may_cut (Some f) = not f.begun

abbrev pub flushed : Core → Flush → ℕ → Next
flushed k f zero = not_now k
flushed k f (suc zero) = record { core = record k { durable = f.cut; flush = None; queue = waiting k.actors f.cut k.queue }; reply = reply.Done }
flushed k f (suc n) = record { core = record k { flush = Some (record f { left = n; begun = true }) }; reply = reply.Done }

abbrev pub flush_step : Core → Option Flush → Next
flush_step k None = not_now k
flush_step k (Some f) = flushed k f f.left

abbrev pub purge_upto : Core → EngineName → ℕ
purge_upto k name = min (number_at name (oldest_of k.regs)) (number_at name k.durable)

abbrev pub purge_next : Core → EngineName → Next
purge_next k name = record { core = called k name (call.Purge (purge_upto k name)); reply = reply.Number (purged_to (table_of k name) (purge_upto k name)) }

-- ---- a stop, and what stands again

-- the one list of commits of this run
abbrev pub commits_of : Core → List Commit
commits_of k = order_of (run_of (traces_of k))

abbrev pub durable_place : Core → ℕ
durable_place k = place (commits_of k) (Some k.durable.a) (Some k.durable.b)

-- the rows after the prefix that is durable
abbrev pub durable_rows : Core → Tables
durable_rows k = state k.rows (take (durable_place k) (commits_of k))

abbrev pub opening_cut : Core → Point
opening_cut k = selection k.durable.a k.durable.b

abbrev pub reopened : Core → Core
reopened k = core_at k.catalog (durable_rows k) (opening_cut k) k.regs.partitions k.regs.size

-- ---- all events

abbrev pub live_step : Core → Event → Next
live_step k (event.Begin tx kind) = for_label k tx (event.Begin tx kind)
live_step k (event.Select tx) = for_label k tx (event.Select tx)
live_step k (event.OpenStore tx) = for_label k tx (event.OpenStore tx)
live_step k (event.Read tx t key) = for_label k tx (event.Read tx t key)
live_step k (event.Put tx w) = for_label k tx (event.Put tx w)
live_step k (event.Close tx name) = for_label k tx (event.Close tx name)
live_step k (event.Draw tx name) = for_label k tx (event.Draw tx name)
live_step k (event.Check tx) = for_label k tx (event.Check tx)
live_step k (event.Stamp tx name) = for_label k tx (event.Stamp tx name)
live_step k (event.Leave tx name) = for_label k tx (event.Leave tx name)
live_step k event.Cut = cond (may_cut k.flush) (cut_next k) (not_now k)
live_step k event.FlushStep = flush_step k k.flush
live_step k (event.Purge name) = purge_next k name
live_step k event.Stop = record { core = record k { stopped = true }; reply = reply.Done }
live_step k event.Reopen = not_now k

-- after a stop the machine only opens again
abbrev pub stopped_step : Core → Event → Next
stopped_step k event.Reopen = record { core = reopened k; reply = reply.Point (Some (opening_cut k)) }
stopped_step k e = not_now k

abbrev pub step : Core → Event → Next
step k e = cond k.stopped (stopped_step k e) (live_step k e)

-- what a list of events makes of it
abbrev pub run : Core → List Event → Core
run k [] = k
run k (e ∷ es) = run (step k e).core es
