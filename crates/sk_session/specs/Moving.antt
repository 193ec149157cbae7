-- What a statement or an answer makes of a session.
use Rattle.std.specs.Prelude.{◌≡◌, ℕ, ◌+◌, List, [], ◌∷◌, ◌++◌, Option, Some, None, Bool, true, false, cond, not, ◌⊎◌, if◌then◌else◌, is_some, slice_get, slice_set, nat_lt, length, ◌-◌, Result, Ok, Err}
use Rattle.sk_rows.specs.declared.value.Value.{Value}
use Rattle.sk_rows.specs.declared.table.Table.{Table}
use Rattle.sk_rows.specs.declared.statement.Statement.{Statement}
use Rattle.sk_rows.specs.declared.statement.Statement.TheVariants as statement
use Rattle.sk_model.specs.declared.label.Label.{Label}
use Rattle.sk_model.specs.declared.engine.EngineName.{EngineName}
use Rattle.sk_model.specs.declared.engine.EngineName.TheVariants.{Mem, Store}
use Rattle.sk_model.specs.declared.commit.Write.{Write}
use Rattle.sk_model.specs.declared.point.Point.{Point}
use Rattle.sk_model.specs.declared.point.Recycled.{Recycled}
use Rattle.sk_model.specs.declared.reply.ErrWord.{ErrWord}
use Rattle.sk_model.specs.declared.reply.ErrWord.TheVariants as err
use Rattle.sk_model.specs.declared.reply.Reply.{Reply}
use Rattle.sk_model.specs.declared.reply.Reply.TheVariants as reply
use Rattle.sk_model.specs.declared.record.TxKind.{TxKind}
use Rattle.sk_model.specs.declared.record.TxKind.TheVariants as kind
use Rattle.sk_model.specs.declared.record.Said.{Said}
use Rattle.sk_model.specs.declared.record.Record.{Record}
use Rattle.sk_model.specs.declared.record.Ending.{Ending}
use Rattle.sk_model.specs.declared.record.Ending.TheVariants as ending
use Rattle.sk_model.specs.declared.step.StepName.{StepName}
use Rattle.sk_model.specs.declared.step.StepName.TheVariants as step
use Rattle.sk_model.specs.declared.call.EngineCall.{EngineCall}
use Rattle.sk_model.specs.declared.call.EngineCall.TheVariants as call
use Rattle.sk_model.specs.declared.call.EngineFault.{EngineFault}
use Rattle.sk_model.specs.declared.call.EngineFault.TheVariants as fault
use Rattle.sk_model.specs.declared.call.EngineReply.TheVariants as answer
use Rattle.sk_model.specs.Database.{KeyedRows}
use Rattle.sk_model.specs.Names.{columns_at}
use Rattle.sk_model.specs.Reads.{one_row}
use Rattle.sk_model.specs.Replies.{Answer, comes_to, key_read, refusal_in}
use Rattle.sk_model.specs.RecordTalks.{number_or_none}
use Rattle.sk_model.specs.Asking.{keeper, may_use, kind_begun, first_engine, table_named, fault_reply, read_call, put_call}
use Rattle.sk_weave.specs.declared.answer.Selected.{Selected}
use Rattle.sk_commit.specs.declared.asking.Wish.{Wish}
use Rattle.sk_commit.specs.declared.asking.Wish.TheVariants as wish
use Rattle.sk_commit.specs.declared.asking.RegistryCall.TheVariants as reg
use Rattle.sk_commit.specs.declared.asking.RegistryReply.TheVariants as told
use Rattle.sk_commit.specs.declared.asking.Got.{Got}
use Rattle.sk_commit.specs.declared.asking.Got.TheVariants as given
use Rattle.sk_commit.specs.declared.committing.Used.{Used}
use Rattle.sk_commit.specs.declared.committing.CommitEnd.{CommitEnd}
use Rattle.sk_commit.specs.declared.committing.CommitEnd.TheVariants.{Committed, CheckFailed, Spent, NoMemory}
use Rattle.sk_commit.specs.declared.committing.Committing.{Committing}
use Rattle.sk_commit.specs.declared.committing.Stepped.TheVariants.{Went, Early, Ended}
use Rattle.sk_commit.specs.declared.committing.Taken.{Taken}
use Rattle.sk_commit.specs.declared.committing.Taken.TheVariants as outcome
use Rattle.sk_commit.specs.Committing.{wish_of, taken, started}
use Rattle.sk_session.specs.declared.turn.Turn.TheVariants as turn
use Rattle.sk_session.specs.declared.live.Live.{Live}
use Rattle.sk_session.specs.declared.live.Job.{Job}
use Rattle.sk_session.specs.declared.live.Job.TheVariants as job
use Rattle.sk_session.specs.declared.live.At.{At}
use Rattle.sk_session.specs.declared.live.At.TheVariants as at
use Rattle.sk_session.specs.Kept.{listed, said_maybe}
use Rattle.sk_session.specs.declared.live.Moved.{Moved}

-- ---- one transaction

-- the snapshot at which it opened an engine
abbrev pub snapshot_of : Live → EngineName → Option ℕ
snapshot_of live Mem = live.mem
snapshot_of live Store = live.store

-- the statement that is being answered, with its reply
abbrev pub said_now : Option Statement → Reply → Option Said
said_now None r = None
said_now (Some s) r = Some (record { statement = s; reply = r })

-- the commit point, where the check has passed
abbrev pub passed_at : Bool → Option ℕ → Option ℕ → Option Point
passed_at passed mem store = if passed then Some (record { a = number_or_none mem; b = number_or_none store; commit = true }) else None

abbrev pub point_passed : Live → Option Point
point_passed live = passed_at live.passed live.drew_mem live.drew_store

-- its record with this ending, and with this statement behind the others
abbrev pub record_with : Live → Ending → Option Said → Record
record_with live how last = record {
  label = live.label;
  kind = live.kind;
  mem = live.mem;
  store = live.store;
  said = live.said ++ said_maybe last;
  ending = how;
  drew_mem = live.drew_mem;
  drew_store = live.drew_store;
  made = listed live.selected ++ listed (point_passed live);
}

-- its record, where it ends so; the statement that is being answered has this reply
abbrev pub record_of : Live → Ending → Reply → Record
record_of live how r = record_with live how (said_now live.statement r)

-- its record between two lines: it counts as committed from its check on, and is open until then
abbrev pub record_now : Live → Record
record_now live = record_with live (if live.passed then ending.Committed else ending.Open) None

-- the last of these records is now this one
abbrev pub with_last : List Record → Record → List Record
with_last records r = if nat_lt 0 (length records) then slice_set records (length records - 1) r else records

-- ---- its end

abbrev pub asks : List Record → Live → Job → Wish → Moved
asks records live doing asked = record { records = records; at = at.Asking live doing; turn = turn.Ask asked }

-- where a session stands behind a transaction: a loss inside BEGIN has to be acknowledged
abbrev pub at_after : Bool → At
at_after true = at.Ended
at_after false = at.Outside

-- the transaction is over
abbrev pub finish : List Record → Live → Ending → Reply → Bool → Moved
finish records live how r lost = record { records = with_last records (record_of live how r); at = at_after lost; turn = turn.Said r }

abbrev pub on : EngineName → EngineCall → Wish
on Mem asked = wish.Mem asked
on Store asked = wish.Store asked

-- the openings from this one on are ended, and then the transaction is over
abbrev pub drops : List Record → Live → Option EngineName → Ending → Reply → Bool → Moved
drops records live None how r lost = finish records live how r lost
drops records live (Some e) how r lost = asks records live (job.Leave e how r lost) (on e (call.DropTx live.label))

abbrev pub opened_store : Live → Option EngineName
opened_store live = if is_some live.store then Some Store else None

abbrev pub first_opened : Live → Option EngineName
first_opened live = if is_some live.mem then Some Mem else opened_store live

-- the opening behind this one
abbrev pub next_opened : Live → EngineName → Option EngineName
next_opened live Mem = opened_store live
next_opened live Store = None

abbrev pub give_up : List Record → Live → Ending → Reply → Bool → Moved
give_up records live how r lost = drops records live (first_opened live) how r lost

-- the transaction is lost by this reply
abbrev pub lose : List Record → Live → Ending → Reply → Moved
lose records live how r = give_up records live how r (not live.small)

abbrev pub refused_by : ErrWord → Reply
refused_by word = reply.Refused word

-- memory was wanted
unfoldable pub starve : List Record → Live → Moved
starve records live = lose records live ending.NoMemory (reply.Refused err.Memory)

abbrev pub fault_ending : EngineFault → Ending
fault_ending (fault.Old snapshot horizon) = ending.Old
fault_ending (fault.Busy by) = ending.RolledBack
fault_ending (fault.Conflict by why) = ending.Conflict
fault_ending fault.Device = ending.Device
fault_ending fault.NoMemory = ending.NoMemory

-- an engine's fault loses it
abbrev pub lose_by : List Record → Live → EngineName → EngineFault → Moved
lose_by records live e f = lose records live (fault_ending f) (fault_reply e f)

-- ---- its commit

abbrev pub used_of : Live → Used
used_of live = record { open_mem = is_some live.mem; open_store = is_some live.store; wrote_mem = live.wrote_mem; wrote_store = live.wrote_store }

abbrev pub ask_step : List Record → Live → Committing → Bool → Option Reply → Moved
ask_step records live c whole own = asks records live (job.Commit c whole own) (wish_of c)

-- it commits: all steps, or one
abbrev pub commits : List Record → Live → Bool → Option Reply → Moved
commits records live whole own = ask_step records live (started live.label (used_of live)) whole own

abbrev pub end_ending : CommitEnd → Ending
end_ending (Committed mem store) = ending.Committed
end_ending (CheckFailed point mem store) = ending.CheckFailed
end_ending (Spent engine mem) = ending.Spent
end_ending NoMemory = ending.NoMemory

abbrev pub committed_reply : Option Reply → Reply
committed_reply None = reply.Committed
committed_reply (Some own) = own

abbrev pub check_failed : Point → ℕ → ℕ → Reply
check_failed point mem store = reply.CheckFailed point mem store

-- what the statement is answered with which a commit has ended so; one outside BEGIN has a reply of its own
abbrev pub end_reply : CommitEnd → Option Reply → Reply
end_reply (Committed mem store) own = committed_reply own
end_reply (CheckFailed point mem store) own = reply.CheckFailed point mem store
end_reply (Spent engine mem) own = reply.Spent engine
end_reply NoMemory own = reply.Refused err.Memory

-- what a step has added to it
abbrev pub stepped : Live → StepName → Option ℕ → Live
stepped live step.DrawMem n = record live { drew_mem = n }
stepped live step.DrawStore n = record live { drew_store = n }
stepped live step.Check n = record live { passed = true }
stepped live _ n = live

abbrev pub went_on : List Record → Live → Committing → StepName → Option ℕ → Bool → Option Reply → Moved
went_on records live c name n true own = ask_step records live c true own
went_on records live c name n false own = record { records = records; at = at.Stepping live c; turn = turn.Said (reply.Step name n) }

abbrev pub commit_goes : List Record → Live → Taken → Bool → Option Reply → Moved
commit_goes records live (outcome.More c) whole own = ask_step records live c whole own
commit_goes records live (outcome.Step (Went c name n)) whole own = went_on records (stepped live name n) c name n whole own
commit_goes records live (outcome.Step (Early c floor counter)) whole own = ask_step records live c whole own
commit_goes records live (outcome.Step (Ended end)) whole own = finish records live (end_ending end) (end_reply end own) false

-- ---- its statements

-- the statement was answered this
abbrev pub heard : Live → Reply → Live
heard live r = record live { said = live.said ++ said_maybe (said_now live.statement r); statement = None }

abbrev pub goes_well : Reply → Bool
goes_well (reply.Count n) = true
goes_well (reply.Rows rows) = true
goes_well _ = false

-- a transaction outside BEGIN behind its one statement: it commits, or is rolled back
abbrev pub closes : List Record → Live → Reply → Bool → Moved
closes records live r true = commits records live true (Some r)
closes records live r false = give_up records live ending.RolledBack r false

-- the statement of a transaction inside BEGIN was answered this
abbrev pub hears : List Record → Live → Reply → Moved
hears records live r = record { records = records; at = at.Inside (heard live r); turn = turn.Said r }

unfoldable pub say : List Record → Live → Reply → Moved
say records live r =
    cond live.small (closes records live r (goes_well r)) (hears records live r)

-- the next of these writes is put; behind the last one comes the reply
abbrev pub put_at : List Record → Live → EngineName → List Write → ℕ → Reply → Option Write → Moved
put_at records live e writes done r None = say records live r
put_at records live e writes done r (Some w) = asks records live (job.Put e writes done r) (on e (put_call live.label w))

unfoldable pub put_next : List Record → Live → EngineName → List Write → ℕ → Reply → Moved
put_next records live e writes done r = put_at records live e writes done r (slice_get writes done)

-- the statement comes to this
abbrev pub answers : List Record → Live → EngineName → Answer → Moved
answers records live e a = put_next records live e a.1 0 a.0

abbrev pub ask_read : List Record → Live → EngineName → ℕ → Option Value → Moved
ask_read records live e t key = asks records live (job.Read e t key) (on e (read_call live.label t key))

-- the read of the statement that is being answered: the engine, the number of the table, and the key, where it names a table
abbrev pub read_in : List Table → Statement → Option ℕ → Option (EngineName × ℕ × Option Value)
read_in catalog s None = None
read_in catalog s (Some t) = Some (keeper catalog t, t, key_read (columns_at catalog t) s)

abbrev pub read_now : List Table → Option Statement → Option (EngineName × ℕ × Option Value)
read_now catalog None = None
read_now catalog (Some s) = read_in catalog s (table_named catalog s)

abbrev pub read_by : List Record → Live → Option (EngineName × ℕ × Option Value) → Moved
read_by records live None = starve records live
read_by records live (Some r) = ask_read records live r.0 r.1 r.2

abbrev pub read_for : List Table → List Record → Live → Moved
read_for catalog records live = read_by records live (read_now catalog live.statement)

-- a snapshot of the storage engine is selected, for a transaction over both
abbrev pub ask_select : List Record → Live → Moved
ask_select records live = asks records live job.Select (wish.Reg (reg.Select (number_or_none live.mem)))

abbrev pub open_or_read : List Table → List Record → Live → Option ℕ → Moved
open_or_read catalog records live None = ask_select records live
open_or_read catalog records live (Some n) = read_for catalog records live

-- what refuses a statement, or the engine that it uses: an engine that the transaction may not use is the last refusal
abbrev pub judged_at : List Table → TxKind → ℕ → Option ErrWord → Result EngineName ErrWord
judged_at catalog kind t (Some word) = Err word
judged_at catalog kind t None = if may_use kind (keeper catalog t) then Ok (keeper catalog t) else Err err.Engine

abbrev pub judged_in : List Table → TxKind → Statement → Option ℕ → Result EngineName ErrWord
judged_in catalog kind s None = Err err.Table
judged_in catalog kind s (Some t) = judged_at catalog kind t (refusal_in (columns_at catalog t) s)

abbrev pub judged : List Table → TxKind → Option Statement → Result EngineName ErrWord
judged catalog kind None = Err err.Memory
judged catalog kind (Some s) = judged_in catalog kind s (table_named catalog s)

abbrev pub inside_by : List Table → List Record → Live → Result EngineName ErrWord → Moved
inside_by catalog records live (Err word) = say records live (reply.Refused word)
inside_by catalog records live (Ok e) = open_or_read catalog records live (snapshot_of live e)

-- a statement inside a transaction
abbrev pub inside : List Table → List Record → Live → Moved
inside catalog records live = inside_by catalog records live (judged catalog live.kind live.statement)

-- ---- answers

abbrev pub opened_at : Live → EngineName → ℕ → Live
opened_at live Mem n = record live { mem = Some n }
opened_at live Store n = record live { store = Some n }

abbrev pub has_written : Live → EngineName → Live
has_written live Mem = record live { wrote_mem = true }
has_written live Store = record live { wrote_store = true }

abbrev pub selects : Live → Selected → Live
selects live s = cond s.made (record live { selected = Some (record { a = number_or_none live.mem; b = s.b; commit = false }) }) live

abbrev pub noted_open : Live → EngineName → ℕ → Got → Live
noted_open live e n (given.Engine answer.Done) = opened_at live e n
noted_open live e n _ = live

abbrev pub noted_select : Live → Got → Live
noted_select live (given.Reg (told.Selected s)) = selects live s
noted_select live _ = live

abbrev pub noted_put : Live → EngineName → Got → Live
noted_put live e (given.Engine answer.Done) = has_written live e
noted_put live e _ = live

-- what an answer adds to a transaction
abbrev pub noted : Live → Job → Got → Live
noted live job.Count got = live
noted live (job.Open e n) got = noted_open live e n got
noted live job.Select got = noted_select live got
noted live (job.Read e t key) got = live
noted live (job.Put e writes done r) got = noted_put live e got
noted live (job.Commit c whole own) got = live
noted live (job.Leave e how r lost) got = live

abbrev pub ask_open : List Record → Live → EngineName → ℕ → Moved
ask_open records live e n = asks records live (job.Open e n) (on e (call.Open live.label n))

abbrev pub is_begin : Option Statement → Bool
is_begin (Some (statement.Begin begun)) = true
is_begin _ = false

-- behind an opening comes the reply to BEGIN, or the read
abbrev pub behind_open : List Table → List Record → Live → Bool → Moved
behind_open catalog records live true = say records live (reply.Began live.label)
behind_open catalog records live false = read_for catalog records live

abbrev pub count_goes : List Record → Live → Got → Moved
count_goes records live (given.Reg (told.Number n)) = ask_open records live (first_engine live.kind) n
count_goes records live _ = starve records live

abbrev pub open_goes : List Table → List Record → Live → EngineName → Got → Moved
open_goes catalog records live e (given.Engine answer.Done) = behind_open catalog records live (is_begin live.statement)
open_goes catalog records live e (given.Engine (answer.Fault f)) = lose_by records live e f
open_goes catalog records live e _ = starve records live

abbrev pub lose_recycled : List Record → Live → Recycled → Moved
lose_recycled records live r = lose records live ending.Recycled (reply.Recycled r)

abbrev pub select_goes : List Record → Live → Got → Moved
select_goes records live (given.Reg (told.Selected s)) = ask_open records live Store s.b
select_goes records live (given.Reg (told.Recycled r)) = lose_recycled records live r
select_goes records live _ = starve records live

-- a read that has to wait changes nothing, but outside BEGIN the transaction is rolled back
abbrev pub fault_at_read : List Record → Live → EngineName → EngineFault → Moved
fault_at_read records live e (fault.Busy by) = say records live (reply.Busy by)
fault_at_read records live e f = lose_by records live e f

-- what the statement that is being answered comes to over these rows, where it names a table
abbrev pub answer_in : List Table → Statement → KeyedRows → Option ℕ → Option Answer
answer_in catalog s rows None = None
answer_in catalog s rows (Some t) = Some (comes_to (columns_at catalog t) t s rows)

abbrev pub answer_now : List Table → Option Statement → KeyedRows → Option Answer
answer_now catalog None rows = None
answer_now catalog (Some s) rows = answer_in catalog s rows (table_named catalog s)

abbrev pub answer_by : List Record → Live → EngineName → Option Answer → Moved
answer_by records live e None = starve records live
answer_by records live e (Some a) = answers records live e a

abbrev pub rows_come : List Table → List Record → Live → EngineName → KeyedRows → Moved
rows_come catalog records live e rows = answer_by records live e (answer_now catalog live.statement rows)

abbrev pub get_goes : List Table → List Record → Live → EngineName → Value → Got → Moved
get_goes catalog records live e key (given.Engine (answer.Found row)) = rows_come catalog records live e (one_row key row)
get_goes catalog records live e key (given.Engine (answer.Fault f)) = fault_at_read records live e f
get_goes catalog records live e key _ = starve records live

abbrev pub scan_goes : List Table → List Record → Live → EngineName → Got → Moved
scan_goes catalog records live e (given.Engine (answer.Rows rows)) = rows_come catalog records live e rows
scan_goes catalog records live e (given.Engine (answer.Fault f)) = fault_at_read records live e f
scan_goes catalog records live e _ = starve records live

abbrev pub read_goes : List Table → List Record → Live → EngineName → Option Value → Got → Moved
read_goes catalog records live e None got = scan_goes catalog records live e got
read_goes catalog records live e (Some key) got = get_goes catalog records live e key got

abbrev pub put_goes : List Record → Live → EngineName → List Write → ℕ → Reply → Got → Moved
put_goes records live e writes done r (given.Engine answer.Done) = put_next records live e writes (done + 1) r
put_goes records live e writes done r (given.Engine (answer.Fault f)) = lose_by records live e f
put_goes records live e writes done r _ = starve records live

-- where the answer leads, which is noted already
abbrev pub goes : List Table → List Record → Live → Job → Got → Moved
goes catalog records live job.Count got = count_goes records live got
goes catalog records live (job.Open e n) got = open_goes catalog records live e got
goes catalog records live job.Select got = select_goes records live got
goes catalog records live (job.Read e t key) got = read_goes catalog records live e key got
goes catalog records live (job.Put e writes done r) got = put_goes records live e writes done r got
goes catalog records live (job.Commit c whole own) got = commit_goes records live (taken c got) whole own
goes catalog records live (job.Leave e how r lost) got = drops records live (next_opened live e) how r lost

-- ---- beginnings

-- a transaction that begins with this statement
abbrev pub begun : Label → TxKind → Bool → Statement → Live
begun label kind small s = record {
  label = label;
  kind = kind;
  small = small;
  mem = None;
  store = None;
  wrote_mem = false;
  wrote_store = false;
  said = [];
  statement = Some s;
  selected = None;
  passed = false;
  drew_mem = None;
  drew_store = None;
  room = tt;
}

-- the record of a transaction that is live, as it began
abbrev pub record_begun : Label → TxKind → Record
record_begun label kind = record { label = label; kind = kind; mem = None; store = None; said = []; ending = ending.Open; drew_mem = None; drew_store = None; made = [] }

abbrev pub counter_wish : EngineName → Wish
counter_wish Mem = wish.Reg reg.Begin
counter_wish Store = wish.Reg reg.StoreNow

-- the put of this write, where there is one
abbrev pub put_wish : Live → EngineName → Option Write → Wish
put_wish live e None = on e (call.DropTx live.label)
put_wish live e (Some w) = on e (put_call live.label w)

-- the call that is asked for where this is waited for
abbrev pub wished : Live → Job → Wish
wished live job.Count = counter_wish (first_engine live.kind)
wished live (job.Open e n) = on e (call.Open live.label n)
wished live job.Select = wish.Reg (reg.Select (number_or_none live.mem))
wished live (job.Read e t key) = on e (read_call live.label t key)
wished live (job.Put e writes done r) = put_wish live e (slice_get writes done)
wished live (job.Commit c whole own) = wish_of c
wished live (job.Leave e how r lost) = on e (call.DropTx live.label)

unfoldable pub begins : List Record → Label → TxKind → Bool → Statement → Moved
begins records label kind small s = asks (records ++ record_begun label kind ∷ []) (begun label kind small s) job.Count (counter_wish (first_engine kind))

abbrev pub engine_kind : EngineName → TxKind
engine_kind Mem = kind.Mem
engine_kind Store = kind.Store

abbrev pub stays : List Record → At → Reply → Moved
stays records there r = record { records = records; at = there; turn = turn.Said r }

-- one of these two
abbrev pub Either : Moved → Moved → Moved → Type 0
Either x y moved = (moved ≡ x) ⊎ (moved ≡ y)

-- ---- statements

abbrev pub refuses : List Record → At → ErrWord → Moved
refuses records there word = stays records there (reply.Refused word)

abbrev pub rolled_back : Reply
rolled_back = reply.RolledBack

abbrev pub says : Live → Statement → Live
says live s = record live { statement = Some s }

-- behind a transaction that was lost
abbrev pub start_ended : List Record → Option Statement → Moved
start_ended records (Some statement.Commit) = stays records at.Outside reply.RolledBack
start_ended records (Some statement.Rollback) = stays records at.Outside reply.RolledBack
start_ended records _ = refuses records at.Ended err.Ended

-- between two steps of a commit
abbrev pub start_stepping : List Record → Live → Committing → Option Statement → Moved
start_stepping records live c None = ask_step records live c false None
start_stepping records live c (Some statement.Commit) = ask_step records (says live statement.Commit) c true None
start_stepping records live c (Some _) = refuses records (at.Stepping live c) err.Committing

-- a statement inside a transaction that a table answers
abbrev pub InsideTable : List Table → List Record → Live → Statement → Moved → Type 0
InsideTable catalog records live s moved = (moved ≡ starve records live) ⊎ Either (inside catalog records (says live s)) (starve records (says live s)) moved

-- inside a transaction, between two statements
abbrev pub StartsInside : List Table → List Record → Live → Option Statement → Moved → Type 0
StartsInside catalog records live None moved = moved ≡ commits records live false None
StartsInside catalog records live (Some (statement.Begin begun)) moved = moved ≡ refuses records (at.Inside live) err.InTransaction
StartsInside catalog records live (Some statement.Commit) moved = moved ≡ commits records (says live statement.Commit) true None
StartsInside catalog records live (Some statement.Rollback) moved = moved ≡ give_up records (says live statement.Rollback) ending.RolledBack rolled_back false
StartsInside catalog records live (Some s) moved = InsideTable catalog records live s moved

abbrev pub label_after : ℕ → List Record → Label
label_after number records = record { session = number; k = length records + 1 }

-- what refuses a statement outside a transaction, or the engine that it uses
abbrev pub judged_outside_at : List Table → ℕ → Option ErrWord → Result EngineName ErrWord
judged_outside_at catalog t (Some word) = Err word
judged_outside_at catalog t None = Ok (keeper catalog t)

abbrev pub judged_outside_in : List Table → Statement → Option ℕ → Result EngineName ErrWord
judged_outside_in catalog s None = Err err.Table
judged_outside_in catalog s (Some t) = judged_outside_at catalog t (refusal_in (columns_at catalog t) s)

abbrev pub judged_outside : List Table → Statement → Result EngineName ErrWord
judged_outside catalog s = judged_outside_in catalog s (table_named catalog s)

-- a statement outside a transaction that a table answers
abbrev pub OutsideTable : ℕ → List Record → Statement → Result EngineName ErrWord → Moved → Type 0
OutsideTable number records s (Err word) moved = moved ≡ refuses records at.Outside word
OutsideTable number records s (Ok e) moved = Either (begins records (label_after number records) (engine_kind e) true s) (refuses records at.Outside err.Memory) moved

-- outside a transaction
abbrev pub StartsOutside : List Table → ℕ → List Record → Option Statement → Moved → Type 0
StartsOutside catalog number records None moved = moved ≡ refuses records at.Outside err.NoTransaction
StartsOutside catalog number records (Some statement.Commit) moved = moved ≡ refuses records at.Outside err.NoTransaction
StartsOutside catalog number records (Some statement.Rollback) moved = moved ≡ refuses records at.Outside err.NoTransaction
StartsOutside catalog number records (Some (statement.Begin begun)) moved =
    Either (begins records (label_after number records) (kind_begun begun) false (statement.Begin begun)) (refuses records at.Ended err.Memory) moved
StartsOutside catalog number records (Some s) moved = OutsideTable number records s (judged_outside catalog s) moved

-- what a statement makes of a session that stands there
abbrev pub StartsAt : List Table → ℕ → List Record → At → Option Statement → Moved → Type 0
StartsAt catalog number records at.Outside s moved = StartsOutside catalog number records s moved
StartsAt catalog number records (at.Inside live) s moved = StartsInside catalog records live s moved
StartsAt catalog number records (at.Stepping live c) s moved = moved ≡ start_stepping records live c s
StartsAt catalog number records at.Ended s moved = moved ≡ start_ended records s
StartsAt catalog number records (at.Asking live doing) s moved = moved ≡ refuses records (at.Asking live doing) err.Committing

-- Where an answer leads. An answer to a call of a commit, or to the end of an opening, wants no memory.
abbrev pub GoesAs : List Table → List Record → Live → Job → Got → Moved → Type 0
GoesAs catalog records live (job.Commit c whole own) got moved = moved ≡ commit_goes records live (taken c got) whole own
GoesAs catalog records live (job.Leave e how r lost) got moved = moved ≡ drops records live (next_opened live e) how r lost
GoesAs catalog records live doing got moved = Either (goes catalog records (noted live doing got) doing got) (starve records (noted live doing got)) moved

-- what an answer makes of a session that stands there
abbrev pub TakesAt : List Table → List Record → At → Got → Moved → Type 0
TakesAt catalog records (at.Asking live doing) got moved =
    GoesAs catalog records live doing got moved
TakesAt catalog records there got moved = moved ≡ refuses records there err.Committing

-- the records, that of a live transaction too as far as it has come
abbrev pub records_at : List Record → At → List Record
records_at records (at.Inside live) = with_last records (record_now live)
records_at records (at.Stepping live c) = with_last records (record_now live)
records_at records there = records

-- what a session that stands there does as it is left
abbrev pub leave_at : List Record → At → Moved
leave_at records (at.Inside live) = give_up records live ending.RolledBack rolled_back false
leave_at records at.Outside = stays records at.Outside reply.RolledBack
leave_at records at.Ended = stays records at.Outside reply.RolledBack
leave_at records there = refuses records there err.Committing
