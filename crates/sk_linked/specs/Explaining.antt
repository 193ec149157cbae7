-- What a transaction's events were replied, as one database with its prefix and its own writes replies it.
use Rattle.std.specs.Prelude.{◌≡◌, ℕ, List, [], ◌∷◌, Option, Some, None}
use Rattle.std.specs.List.{AllByRecursion}
use Rattle.sk_rows.specs.declared.value.Value.{Value}
use Rattle.sk_model.specs.declared.commit.Write.{Write}
use Rattle.sk_model.specs.Database.{KeyedRows, Tables, row_of, table_of, after_writes}
use Rattle.sk_linked.specs.Reads.{view_at}
use Rattle.sk_linked.specs.declared.event.Event.{Event}
use Rattle.sk_linked.specs.declared.event.Event.TheVariants as event
use Rattle.sk_linked.specs.declared.event.CoreReply.{CoreReply}
use Rattle.sk_linked.specs.declared.event.CoreReply.TheVariants as reply
use Rattle.sk_linked.specs.declared.record.Did.{Did}
use Rattle.sk_linked.specs.Traces.{run_of}
use Rattle.sk_linked.specs.State.{Actor, traces_of}
use Rattle.sk_linked.specs.Plans.{found_rows}
use Rattle.sk_linked.specs.Runs.{Start, ran}

-- a write that was done
abbrev pub write_done : Write → CoreReply → List Write
write_done w reply.Done = w ∷ []
write_done w (reply.Number n) = []
write_done w (reply.Rows rows) = []
write_done w (reply.Point p) = []
write_done w (reply.Refused f) = []
write_done w (reply.CheckFailed p) = []
write_done w (reply.Recycled r) = []
write_done w reply.Spent = []
write_done w reply.NotNow = []
write_done w reply.NoMemory = []

-- what an event with its reply wrote: a Put that was done
abbrev pub event_wrote : Event → CoreReply → List Write
event_wrote (event.Begin tx kind) r = []
event_wrote (event.Select tx) r = []
event_wrote (event.OpenStore tx) r = []
event_wrote (event.Read tx t key) r = []
event_wrote (event.Put tx w) r = write_done w r
event_wrote (event.Close tx name) r = []
event_wrote (event.Draw tx name) r = []
event_wrote (event.Check tx) r = []
event_wrote (event.Stamp tx name) r = []
event_wrote (event.Leave tx name) r = []
event_wrote event.Cut r = []
event_wrote event.FlushStep r = []
event_wrote (event.Purge name) r = []
event_wrote event.Stop r = []
event_wrote event.Reopen r = []

abbrev pub did_write : Did → List Write
did_write d = event_wrote d.event d.reply

-- rows that were replied are these
abbrev pub GivesRows : KeyedRows → CoreReply → Type 0
GivesRows rows reply.Done = Unit {0}
GivesRows rows (reply.Number n) = Unit {0}
GivesRows rows (reply.Rows found) = found ≡ rows
GivesRows rows (reply.Point p) = Unit {0}
GivesRows rows (reply.Refused f) = Unit {0}
GivesRows rows (reply.CheckFailed p) = Unit {0}
GivesRows rows (reply.Recycled r) = Unit {0}
GivesRows rows reply.Spent = Unit {0}
GivesRows rows reply.NotNow = Unit {0}
GivesRows rows reply.NoMemory = Unit {0}

-- the rows of a table, or of one key of it
abbrev pub asked_rows : Tables → ℕ → Option Value → KeyedRows
asked_rows db t (Some key) = found_rows (Some key) (row_of db t key)
asked_rows db t None = table_of db t

-- a read that was answered by rows shows what these tables hold
abbrev pub EventShows : Tables → Event → CoreReply → Type 0
EventShows db (event.Begin tx kind) r = Unit {0}
EventShows db (event.Select tx) r = Unit {0}
EventShows db (event.OpenStore tx) r = Unit {0}
EventShows db (event.Read tx t key) r = GivesRows (asked_rows db t key) r
EventShows db (event.Put tx w) r = Unit {0}
EventShows db (event.Close tx name) r = Unit {0}
EventShows db (event.Draw tx name) r = Unit {0}
EventShows db (event.Check tx) r = Unit {0}
EventShows db (event.Stamp tx name) r = Unit {0}
EventShows db (event.Leave tx name) r = Unit {0}
EventShows db event.Cut r = Unit {0}
EventShows db event.FlushStep r = Unit {0}
EventShows db (event.Purge name) r = Unit {0}
EventShows db event.Stop r = Unit {0}
EventShows db event.Reopen r = Unit {0}

-- each read shows what the database holds that begins as db and has the transaction's own writes before it
abbrev pub EventsTold : Tables → List Did → Type 0
EventsTold db [] = Unit {0}
EventsTold db (d ∷ rest) = EventShows db d.event d.reply × EventsTold (after_writes db (did_write d)) rest

-- the replies of each transaction's events are those of the prefix at its place, with its own writes
abbrev pub RunsAreExplained : Type 0
RunsAreExplained = (s : Start) (events : List Event) →
    AllByRecursion (λ (r : Actor). EventsTold (view_at (run_of (traces_of (ran s events))) r.opened []) r.did) (ran s events).actors
