-- What an event adds to its transaction.
use Rattle.std.specs.Prelude.{List, [], ◌∷◌, ◌++◌, Option, Some, None, cond}
use Rattle.sk_model.specs.declared.engine.EngineName.TheVariants.{Mem, Store}
use Rattle.sk_model.specs.declared.call.EngineCall.{EngineCall}
use Rattle.sk_model.specs.declared.call.Entry.{Entry}
use Rattle.sk_model.specs.Engine.{EngineTable}
use Rattle.sk_linked.specs.declared.event.Event.{Event}
use Rattle.sk_linked.specs.declared.event.CoreReply.{CoreReply}
use Rattle.sk_linked.specs.State.{Actor, Core}
use Rattle.sk_linked.specs.Plans.{Plan}
use Rattle.sk_linked.specs.Machine.{entered, may_all, calls_on, put_actor, queued}

-- the event with its reply, and its calls on both engines with these entries
abbrev pub recorded_with : Event → CoreReply → Actor → List Entry → List Entry → Actor
recorded_with e reply who mem store = record who { did = who.did ++ record { event = e; reply = reply } ∷ []; talk = who.talk ++ (calls_on Mem mem ++ calls_on Store store) }

-- the entries that calls leave, where the condition of each holds when it is made
abbrev pub made_of : EngineTable → List EngineCall → Option (List Entry)
made_of e calls = cond (may_all e calls) (Some (entered e calls)) None

-- the state after a plan is carried out, whose calls left these entries
abbrev pub applied_with : Core → Event → Plan → List Entry → List Entry → Core
applied_with k e p mem store = record k {
  regs = p.regs;
  journals = record { mem = k.journals.mem ++ mem; store = k.journals.store ++ store };
  actors = put_actor (recorded_with e p.reply p.who mem store) k.actors;
  queue = queued p.who k.queue;
}
