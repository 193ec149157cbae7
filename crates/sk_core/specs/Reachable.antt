-- The machine in the code: the states that a run leads to, what is handed out of them, and what one call makes of them.
use Rattle.std.specs.Prelude.{◌≡◌, ◌⊎◌, ◌<◌, ℕ, List, [], ◌∷◌, ◌++◌, length, take, map, true, false}
use Rattle.std.specs.List.{AllByRecursion}
use Rattle.sk_model.specs.declared.call.Entry.{Entry}
use Rattle.sk_model.specs.Records.{Fresh}
use Rattle.sk_linked.specs.Reads.{view_at}
use Rattle.sk_linked.specs.declared.event.Event.{Event}
use Rattle.sk_linked.specs.declared.event.CoreReply.{CoreReply}
use Rattle.sk_linked.specs.declared.event.CoreReply.TheVariants as reply
use Rattle.sk_linked.specs.declared.record.CoreRecord.{CoreRecord}
use Rattle.sk_linked.specs.Traces.{run_of, Linked}
use Rattle.sk_linked.specs.Headline.{Headline}
use Rattle.sk_linked.specs.State.{Actor, record_of, Core, traces_of}
use Rattle.sk_linked.specs.Machine.{step, run}
use Rattle.sk_linked.specs.Lawful.{is_lawful, is_not_now}
use Rattle.sk_linked.specs.Runs.{Start, ran, IsDurable}
use Rattle.sk_linked.specs.Explaining.{EventsTold}

-- some events lead to the state from some beginning
pub record IsReachable (k : Core) : Type 0 where
  pub start : Start
  pub events : List Event
  pub is : ran start events ≡ k

-- the journals and the records that are handed out are those of the state
pub record IsShown (k : Core) (mem store : List Entry) (records : List CoreRecord) : Type 0 where
  pub mem_is : mem ≡ k.journals.mem
  pub store_is : store ≡ k.journals.store
  pub records_are : records ≡ map record_of k.actors

-- the state and the reply are those of the step, or memory was wanted and nothing is changed
abbrev pub IsStep : Core → Event → Core → CoreReply → Type 0
IsStep k e l r = (record { core = l; reply = r } ≡ step k e) ⊎ ((r ≡ reply.NoMemory) × (l ≡ k))

-- A lawful event is not answered NotNow, unless memory was wanted. Another one is, or memory was wanted, and it changes nothing.
pub record IsAnswered (k : Core) (e : Event) (l : Core) (r : CoreReply) : Type 0 where
  pub lawful : is_lawful k e ≡ true → is_not_now r ≡ false
  pub unlawful : is_lawful k e ≡ false → ((r ≡ reply.NotNow) ⊎ (r ≡ reply.NoMemory)) × (l ≡ k)

-- what every state that a run leads to promises
pub record Holds (k : Core) : Type 0 where
  -- the journals, the points and the transactions belong together
  pub linked : Linked (traces_of k)
  -- and are of one database with one list of commits
  pub one : Headline (traces_of k)
  -- what the events of each transaction were replied are the rows of one prefix of that list, with its own writes before them
  pub explained : AllByRecursion (λ (r : Actor). EventsTold (view_at (run_of (traces_of k)) r.opened []) r.did) k.actors
  -- no session goes back
  pub fresh : Fresh (map (λ r. (record_of r).base) k.actors)
  -- the prefix at the durable cut holds each commit that has ended and waits for no cut, and is what stands again after a stop
  pub durable : IsDurable k

-- the replies to these events, one after another
abbrev pub replies_to : Core → List Event → List CoreReply
replies_to k [] = []
replies_to k (e ∷ es) = (step k e).reply ∷ replies_to (step k e).core es

-- the state and the replies are those of these events
pub record IsWhole (k : Core) (es : List Event) (l : Core) (replies : List CoreReply) : Type 0 where
  pub state : l ≡ run k es
  pub replies_are : replies ≡ replies_to k es

-- the event at n wanted memory: the state is that of the events before it, and to their replies that of want of memory is added
pub record StopsAt (k : Core) (es : List Event) (l : Core) (replies : List CoreReply) : Type 0 where
  pub n : ℕ
  pub within : n < length es
  pub state : l ≡ run k (take n es)
  pub replies_are : replies ≡ replies_to k (take n es) ++ reply.NoMemory ∷ []

abbrev pub IsRun : Core → List Event → Core → List CoreReply → Type 0
IsRun k es l replies = IsWhole k es l replies ⊎ StopsAt k es l replies
