-- How many calls a session may still ask for: each answer leaves fewer. And what it asks for is what it then waits for.
use Rattle.std.specs.Prelude.{◌≡◌, ℕ, ◌+◌, ◌-◌, ◌<◌, ◌≤◌, List, Option, Some, None, Bool, true, false, cond, not, if◌then◌else◌, is_some, slice_get, Result, Ok, Err}
use Rattle.std.proofs.Common.{refl, sym, ap, subst, inl, inr, arith}
use Rattle.sk_rows.specs.declared.table.Table.{Table}
use Rattle.sk_rows.specs.declared.value.Value.{Value}
use Rattle.sk_rows.specs.declared.statement.Statement.{Statement}
use Rattle.sk_rows.specs.declared.statement.Statement.TheVariants as statement
use Rattle.sk_model.specs.declared.commit.Write.{Write}
use Rattle.sk_model.specs.declared.engine.EngineName.{EngineName}
use Rattle.sk_model.specs.declared.engine.EngineName.TheVariants.{Mem, Store}
use Rattle.sk_model.specs.declared.label.Label.{Label}
use Rattle.sk_model.specs.declared.record.Record.{Record}
use Rattle.sk_model.specs.declared.record.Ending.{Ending}
use Rattle.sk_model.specs.declared.record.Ending.TheVariants as ending
use Rattle.sk_model.specs.declared.record.TxKind.{TxKind}
use Rattle.sk_model.specs.declared.reply.Reply.{Reply}
use Rattle.sk_model.specs.declared.reply.Reply.TheVariants as reply
use Rattle.sk_model.specs.declared.reply.ErrWord.{ErrWord}
use Rattle.sk_model.specs.declared.reply.ErrWord.TheVariants as err
use Rattle.sk_model.specs.declared.step.StepName.{StepName}
use Rattle.sk_model.specs.declared.step.StepName.TheVariants.{CloseMem, CloseStore, DrawMem, DrawStore, Check, StampMem, StampStore}
use Rattle.sk_model.specs.declared.call.EngineFault.{EngineFault}
use Rattle.sk_model.specs.declared.call.EngineFault.TheVariants as fault
use Rattle.sk_model.specs.declared.call.EngineReply.TheVariants as answer
use Rattle.sk_model.specs.Replies.{Answer}
use Rattle.sk_model.specs.Asking.{fault_reply, kind_begun}
use Rattle.sk_model.specs.RecordTalks.{number_or_none}
use Rattle.sk_weave.specs.declared.answer.DrawFault.TheVariants.{Early as TooEarly}
use Rattle.sk_commit.specs.declared.asking.RegistryReply.TheVariants as told
use Rattle.sk_commit.specs.declared.asking.Got.{Got}
use Rattle.sk_commit.specs.declared.asking.Got.TheVariants as given
use Rattle.sk_commit.specs.declared.committing.CommitEnd.{CommitEnd}
use Rattle.sk_commit.specs.declared.committing.CommitEnd.TheVariants.{Committed, CheckFailed, Spent, NoMemory}
use Rattle.sk_commit.specs.declared.committing.Committing.{Committing}
use Rattle.sk_commit.specs.declared.committing.Stage.{Stage}
use Rattle.sk_commit.specs.declared.committing.Stage.TheVariants.{Step, Leave}
use Rattle.sk_commit.specs.declared.committing.Stepped.TheVariants.{Went, Early, Ended}
use Rattle.sk_commit.specs.declared.committing.Taken.{Taken}
use Rattle.sk_commit.specs.declared.committing.Taken.TheVariants as outcome
use Rattle.sk_commit.specs.Committing.{owes_mem, owes_store, leaving, leave_store, ended, goes_on, went, draw, close, check, step_taken, taken_at, taken, first_step, first_stage, started}
use Rattle.sk_session.specs.declared.turn.Turn.{Turn}
use Rattle.sk_session.specs.declared.turn.Turn.TheVariants as turn
use Rattle.sk_session.specs.declared.live.Live.{Live}
use Rattle.sk_session.specs.declared.live.Job.{Job}
use Rattle.sk_session.specs.declared.live.Job.TheVariants as job
use Rattle.sk_session.specs.declared.live.At.{At}
use Rattle.sk_session.specs.declared.live.At.TheVariants as at
use Rattle.sk_session.specs.declared.live.Moved.{Moved}
use Rattle.sk_session.specs.Conversing.{is_early}
use Rattle.sk_session.specs.Moving as moving
use Rattle.sk_session.specs.Moving.{wished, put_wish, Either}

abbrev pub stage_left : Stage → ℕ
stage_left (Step CloseMem) = 9
stage_left (Step CloseStore) = 8
stage_left (Step DrawMem) = 7
stage_left (Step DrawStore) = 6
stage_left (Step Check) = 5
stage_left (Step StampMem) = 4
stage_left (Step StampStore) = 3
stage_left (Leave refused Mem end) = 2
stage_left (Leave refused Store end) = 1

-- what a count of writes is below
abbrev pub most_puts : ℕ
most_puts = 18446744073709551616

-- this many calls at most, where no statement puts more writes than that
abbrev pub job_left : ℕ → Job → ℕ
job_left most job.Count = most + 13
job_left most job.Select = most + 13
job_left most (job.Open e n) = most + 12
job_left most (job.Read e t key) = most + 11
job_left most (job.Put e writes done r) = 10 + (most - done)
job_left most (job.Commit c whole own) = stage_left c.stage
job_left most (job.Leave Mem how r lost) = 2
job_left most (job.Leave Store how r lost) = 1

-- a call is asked for only where it is waited for, and fewer are left than that
abbrev pub Within : ℕ → ℕ → At → Turn → Type 0
Within most n there (turn.Said r) = Unit {0}
Within most n (at.Asking live doing) (turn.Ask w) = (w ≡ wished live doing) × (job_left most doing < n)
Within most n _ (turn.Ask w) = ⊥

pub wider : (most n m : ℕ) (there : At) (t : Turn) → n ≤ m → Within most n there t → Within most m there t
wider most n m there (turn.Said r) le h = tt
wider most n m (at.Asking live doing) (turn.Ask w) le h = (h.0, omega (arith, le, h.1))
wider most n m _ (turn.Ask w) le h = absurd h

abbrev Moves : ℕ → ℕ → Moved → Type 0
Moves most n moved = Within most n moved.at moved.turn

-- ---- the steps of a commit

abbrev StepsWithin : ℕ → Taken → Type 0
StepsWithin n (outcome.More d) = stage_left d.stage < n
StepsWithin n (outcome.Step (Went d step k)) = stage_left d.stage < n
StepsWithin n (outcome.Step (Early d floor counter)) = ⊥
StepsWithin n (outcome.Step (Ended end)) = Unit {0}

chosen : {X : Type 0} (P : X → Type 0) (b : Bool) (x y : X) → P x → P y → P (if b then x else y)
chosen P true x y f g = f
chosen P false x y f g = g

store_left : (n : ℕ) (c : Committing) (refused : Option StepName) (end : CommitEnd) → 1 < n → StepsWithin n (leave_store c refused end)
store_left n c refused end le = chosen (StepsWithin n) (owes_store c.used end) (outcome.More (leaving c refused Store end)) (outcome.Step (Ended end)) le tt

has_ended : (n : ℕ) (c : Committing) (refused : Option StepName) (end : CommitEnd) → 2 < n → StepsWithin n (ended c refused end)
has_ended n c refused end le = chosen (StepsWithin n) (owes_mem c.used end) (outcome.More (leaving c refused Mem end)) (leave_store c refused end) le (store_left n c refused end (omega (arith, le)))

on_to : (n : ℕ) (c : Committing) (step : StepName) (k : Option ℕ) (b : Bool) (x y : StepName) → stage_left (Step x) < n → stage_left (Step y) < n → StepsWithin n (goes_on c step k (Some (if b then x else y)))
on_to n c step k true x y f g = f
on_to n c step k false x y f g = g

last_or : (c : Committing) (k : Option ℕ) (b : Bool) → StepsWithin 4 (goes_on c StampMem k (if b then Some StampStore else None))
last_or c k true = omega arith
last_or c k false = has_ended 4 c None (Committed c.mem c.store) (omega arith)

went_on : (c : Committing) (step : StepName) (k : Option ℕ) → StepsWithin (stage_left (Step step)) (went c step k)
went_on c CloseMem k = on_to 9 c CloseMem k c.used.wrote_store CloseStore DrawMem (omega arith) (omega arith)
went_on c CloseStore k = on_to 8 c CloseStore k c.used.wrote_mem DrawMem DrawStore (omega arith) (omega arith)
went_on c DrawMem k = on_to 7 c DrawMem k c.used.wrote_store DrawStore StampMem (omega arith) (omega arith)
went_on c DrawStore k = on_to 6 c DrawStore k c.used.wrote_mem Check StampStore (omega arith) (omega arith)
went_on c Check k = omega arith
went_on c StampMem k = last_or c k c.used.wrote_store
went_on c StampStore k = has_ended 3 c None (Committed c.mem c.store) (omega arith)

drew_mem : (c : Committing) (got : Got) → is_early got ≡ false → StepsWithin 7 (draw c Mem got)
drew_mem c (given.Reg (told.Number n)) late = went_on (record c { mem = Some n }) DrawMem (Some n)
drew_mem c (given.Reg (told.NotDrawn (TooEarly floor counter))) late = absurd cc
drew_mem c _ late = has_ended 7 c (Some DrawMem) (Spent Mem c.mem) (omega arith)

drew_store : (c : Committing) (got : Got) → is_early got ≡ false → StepsWithin 6 (draw c Store got)
drew_store c (given.Reg (told.Number n)) late = went_on (record c { store = Some n }) DrawStore (Some n)
drew_store c (given.Reg (told.NotDrawn (TooEarly floor counter))) late = absurd cc
drew_store c _ late = has_ended 6 c (Some DrawStore) (Spent Store c.mem) (omega arith)

closed_mem : (c : Committing) (got : Got) → StepsWithin 9 (close c Mem got)
closed_mem c (given.Engine (answer.Number floor)) = went_on (record c { floor_mem = floor }) CloseMem None
closed_mem c _ = has_ended 9 c (Some CloseMem) NoMemory (omega arith)

closed_store : (c : Committing) (got : Got) → StepsWithin 8 (close c Store got)
closed_store c (given.Engine (answer.Number floor)) = went_on (record c { floor_store = floor }) CloseStore None
closed_store c _ = has_ended 8 c (Some CloseStore) NoMemory (omega arith)

checked : (c : Committing) (got : Got) → StepsWithin 5 (check c got)
checked c (given.Reg (told.Passed passed)) = has_ended 5 c (Some Check) (CheckFailed passed.point (number_or_none c.mem) (number_or_none c.store)) (omega arith)
checked c _ = went_on c Check None

step_left : (c : Committing) (step : StepName) (got : Got) → is_early got ≡ false → StepsWithin (stage_left (Step step)) (step_taken c step got)
step_left c CloseMem got late = closed_mem c got
step_left c CloseStore got late = closed_store c got
step_left c DrawMem got late = drew_mem c got late
step_left c DrawStore got late = drew_store c got late
step_left c Check got late = checked c got
step_left c StampMem got late = went_on c StampMem None
step_left c StampStore got late = went_on c StampStore None

commit_left : (c : Committing) (stage : Stage) (got : Got) → is_early got ≡ false → StepsWithin (stage_left stage) (taken_at c stage got)
commit_left c (Step step) got late = step_left c step got late
commit_left c (Leave refused Mem end) got late = store_left 2 c refused end (omega arith)
commit_left c (Leave refused Store end) got late = tt

started_left : (label : Label) (om os wm ws : Bool) → stage_left (first_stage (record { open_mem = om; open_store = os; wrote_mem = wm; wrote_store = ws }) (first_step (record { open_mem = om; open_store = os; wrote_mem = wm; wrote_store = ws }))) < 10
started_left label om os true ws = omega arith
started_left label om os false true = omega arith
started_left label true os false false = omega arith
started_left label false os false false = omega arith

module _ (most : ℕ) where
  commit_within : (n : ℕ) (records : List Record) (live : Live) (t : Taken) (whole : Bool) (own : Option Reply) → StepsWithin n t → Moves most n (moving.commit_goes records live t whole own)
  commit_within n records live (outcome.More d) whole own h = (refl, h)
  commit_within n records live (outcome.Step (Went d step k)) true own h = (refl, h)
  commit_within n records live (outcome.Step (Went d step k)) false own h = tt
  commit_within n records live (outcome.Step (Early d floor counter)) whole own h = absurd h
  commit_within n records live (outcome.Step (Ended end)) whole own h = tt

  commits_within : (records : List Record) (live : Live) (whole : Bool) (own : Option Reply) → Moves most 10 (moving.commits records live whole own)
  unfolding started
  commits_within records live whole own = (refl, started_left live.label (is_some live.mem) (is_some live.store) live.wrote_mem live.wrote_store)

  widen : (n m : ℕ) (x : Moved) → n ≤ m → Moves most n x → Moves most m x
  widen n m x le h = wider most n m x.at x.turn le h

  -- ---- a transaction is lost, or answered

  drops_within : (records : List Record) (live : Live) (o : Option EngineName) (how : Ending) (r : Reply) (lost : Bool) → Moves most 3 (moving.drops records live o how r lost)
  drops_within records live None how r lost = tt
  drops_within records live (Some Mem) how r lost = (refl, omega arith)
  drops_within records live (Some Store) how r lost = (refl, omega arith)

  gives_up_within : (records : List Record) (live : Live) (how : Ending) (r : Reply) (lost : Bool) → Moves most 3 (moving.give_up records live how r lost)
  gives_up_within records live how r lost = drops_within records live (moving.first_opened live) how r lost

  starve_within : (n : ℕ) (records : List Record) (live : Live) → 3 ≤ n → Moves most n (moving.starve records live)
  unfolding moving.starve
  starve_within n records live le = wider most 3 n _ _ le (gives_up_within records live ending.NoMemory (reply.Refused err.Memory) (not live.small))

  lose_within : (n : ℕ) (records : List Record) (live : Live) (how : Ending) (r : Reply) → 3 ≤ n → Moves most n (moving.lose records live how r)
  lose_within n records live how r le = wider most 3 n _ _ le (gives_up_within records live how r (not live.small))

  say_within : (n : ℕ) (records : List Record) (live : Live) (r : Reply) → 10 ≤ n → Moves most n (moving.say records live r)
  unfolding moving.say
  say_within n records live r le = small live.small (moving.goes_well r)
    where
      small : (b well : Bool) → Moves most n (cond b (moving.closes records live r well) (moving.hears records live r))
      small true true = widen 10 n (moving.commits records live true (Some r)) le (commits_within records live true (Some r))
      small true false = widen 3 n (moving.give_up records live ending.RolledBack r false) (omega (arith, le)) (gives_up_within records live ending.RolledBack r false)
      small false well = tt

  either_within : (n : ℕ) (x y moved : Moved) → Either x y moved → Moves most n x → Moves most n y → Moves most n moved
  either_within n x y moved (inl is) hx hy = subst (Moves most n) (sym is) hx
  either_within n x y moved (inr is) hx hy = subst (Moves most n) (sym is) hy

  -- ---- the calls of a statement

  puts_within : (n : ℕ) (records : List Record) (live : Live) (e : EngineName) (writes : List Write) (done : ℕ) (r : Reply) → 11 + (most - done) ≤ n → Moves most n (moving.put_next records live e writes done r)
  unfolding moving.put_next
  puts_within n records live e writes done r le = by (slice_get writes done) refl
    where
      by : (o : Option Write) → slice_get writes done ≡ o → Moves most n (moving.put_at records live e writes done r o)
      by None is = say_within n records live r (omega (arith, le))
      by (Some w) is = (ap (put_wish live e) (sym is), omega (arith, le))

  rows_within : (catalog : List Table) (records : List Record) (live : Live) (e : EngineName) (o : Option Answer) → Moves most (most + 11) (moving.answer_by records live e o)
  rows_within catalog records live e None = starve_within (most + 11) records live (omega arith)
  rows_within catalog records live e (Some a) = puts_within (most + 11) records live e a.1 0 a.0 (omega arith)

  reads_within : (records : List Record) (live : Live) (o : Option (EngineName × ℕ × Option Value)) → Moves most (most + 12) (moving.read_by records live o)
  reads_within records live None = starve_within (most + 12) records live (omega arith)
  reads_within records live (Some r) = (refl, omega arith)

  behind_within : (catalog : List Table) (records : List Record) (live : Live) (b : Bool) → Moves most (most + 12) (moving.behind_open catalog records live b)
  behind_within catalog records live true = say_within (most + 12) records live (reply.Began live.label) (omega arith)
  behind_within catalog records live false = reads_within records live (moving.read_now catalog live.statement)

  count_within : (records : List Record) (live : Live) (got : Got) → Moves most (most + 13) (moving.count_goes records live got)
  count_within records live (given.Reg (told.Number n)) = (refl, omega arith)
  count_within records live _ = starve_within (most + 13) records live (omega arith)

  open_within : (catalog : List Table) (records : List Record) (live : Live) (e : EngineName) (got : Got) → Moves most (most + 12) (moving.open_goes catalog records live e got)
  open_within catalog records live e (given.Engine answer.Done) = behind_within catalog records live (moving.is_begin live.statement)
  open_within catalog records live e (given.Engine (answer.Fault f)) = lose_within (most + 12) records live (moving.fault_ending f) (fault_reply e f) (omega arith)
  open_within catalog records live e _ = starve_within (most + 12) records live (omega arith)

  select_within : (records : List Record) (live : Live) (got : Got) → Moves most (most + 13) (moving.select_goes records live got)
  select_within records live (given.Reg (told.Selected s)) = (refl, omega arith)
  select_within records live (given.Reg (told.Recycled r)) = lose_within (most + 13) records live ending.Recycled (reply.Recycled r) (omega arith)
  select_within records live _ = starve_within (most + 13) records live (omega arith)

  refused_within : (records : List Record) (live : Live) (e : EngineName) (f : EngineFault) → Moves most (most + 11) (moving.fault_at_read records live e f)
  refused_within records live e (fault.Busy by) = say_within (most + 11) records live (reply.Busy by) (omega arith)
  refused_within records live e (fault.Old s n) = lose_within (most + 11) records live ending.Old (fault_reply e (fault.Old s n)) (omega arith)
  refused_within records live e (fault.Conflict by why) = lose_within (most + 11) records live ending.Conflict (fault_reply e (fault.Conflict by why)) (omega arith)
  refused_within records live e fault.Device = lose_within (most + 11) records live ending.Device (fault_reply e fault.Device) (omega arith)
  refused_within records live e fault.NoMemory = lose_within (most + 11) records live ending.NoMemory (fault_reply e fault.NoMemory) (omega arith)

  read_within : (catalog : List Table) (records : List Record) (live : Live) (e : EngineName) (key : Option Value) (got : Got) → Moves most (most + 11) (moving.read_goes catalog records live e key got)
  read_within catalog records live e None (given.Engine (answer.Rows rows)) = rows_within catalog records live e (moving.answer_now catalog live.statement rows)
  read_within catalog records live e None (given.Engine (answer.Fault f)) = refused_within records live e f
  read_within catalog records live e None _ = starve_within (most + 11) records live (omega arith)
  read_within catalog records live e (Some key) (given.Engine (answer.Found row)) = rows_within catalog records live e (moving.answer_now catalog live.statement _)
  read_within catalog records live e (Some key) (given.Engine (answer.Fault f)) = refused_within records live e f
  read_within catalog records live e (Some key) _ = starve_within (most + 11) records live (omega arith)

  put_within : (n : ℕ) (records : List Record) (live : Live) (e : EngineName) (writes : List Write) (done : ℕ) (r : Reply) (got : Got) → 11 + (most - (done + 1)) ≤ n → Moves most n (moving.put_goes records live e writes done r got)
  put_within n records live e writes done r (given.Engine answer.Done) le = puts_within n records live e writes (done + 1) r le
  put_within n records live e writes done r (given.Engine (answer.Fault f)) le = lose_within n records live (moving.fault_ending f) (fault_reply e f) (omega (arith, le))
  put_within n records live e writes done r _ le = starve_within n records live (omega (arith, le))

  -- a bound for what comes behind the answer
  abbrev pub Bounds : ℕ → Job → Type 0
  Bounds n (job.Put e writes done r) = 11 + (most - (done + 1)) ≤ n
  Bounds n doing = job_left most doing ≤ n

  next_within : (live : Live) (e : EngineName) (records : List Record) (how : Ending) (r : Reply) (lost : Bool) → Moves most (job_left most (job.Leave e how r lost)) (moving.drops records live (moving.next_opened live e) how r lost)
  next_within live Mem records how r lost = by (is_some live.store)
    where
      by : (b : Bool) → Moves most 2 (moving.drops records live (if b then Some Store else None) how r lost)
      by true = (refl, omega arith)
      by false = tt
  next_within live Store records how r lost = tt

  goes_within : (catalog : List Table) (records : List Record) (live : Live) (doing : Job) (got : Got) (moved : Moved) (n : ℕ) → moving.GoesAs catalog records live doing got moved → is_early got ≡ false → Bounds n doing → Moves most n moved
  unfolding taken
  goes_within catalog records live (job.Commit c whole own) got moved n is late le =
      subst (Moves most n) (sym is) (wider most (stage_left c.stage) n _ _ le (commit_within (stage_left c.stage) records live (taken_at c c.stage got) whole own (commit_left c c.stage got late)))
  goes_within catalog records live (job.Leave e how r lost) got moved n is late le = subst (Moves most n) (sym is) (wider most (job_left most (job.Leave e how r lost)) n _ _ le (next_within live e records how r lost))
  goes_within catalog records live job.Count got moved n is late le = either_within n _ _ moved is (wider most (most + 13) n _ _ le (count_within records live got)) (starve_within n records live (omega (arith, le)))
  goes_within catalog records live (job.Open e k) got moved n is late le = either_within n _ _ moved is (wider most (most + 12) n _ _ le (open_within catalog records (moving.noted_open live e k got) e got)) (starve_within n records (moving.noted_open live e k got) (omega (arith, le)))
  goes_within catalog records live job.Select got moved n is late le = either_within n _ _ moved is (wider most (most + 13) n _ _ le (select_within records (moving.noted_select live got) got)) (starve_within n records (moving.noted_select live got) (omega (arith, le)))
  goes_within catalog records live (job.Read e t key) got moved n is late le = either_within n _ _ moved is (wider most (most + 11) n _ _ le (read_within catalog records live e key got)) (starve_within n records live (omega (arith, le)))
  goes_within catalog records live (job.Put e writes done r) got moved n is late le = either_within n _ _ moved is (put_within n records (moving.noted_put live e got) e writes done r got le) (starve_within n records (moving.noted_put live e got) (omega (arith, le)))

  -- what an answer leaves
  pub takes_within : (catalog : List Table) (records : List Record) (live : Live) (doing : Job) (got : Got) (moved : Moved) (n : ℕ) → moving.TakesAt catalog records (at.Asking live doing) got moved → is_early got ≡ false → Bounds n doing → Within most n moved.at moved.turn
  takes_within catalog records live doing got moved n is late le = goes_within catalog records live doing got moved n is late le

  stage_small : (stage : Stage) → stage_left stage < 10
  stage_small (Step CloseMem) = omega arith
  stage_small (Step CloseStore) = omega arith
  stage_small (Step DrawMem) = omega arith
  stage_small (Step DrawStore) = omega arith
  stage_small (Step Check) = omega arith
  stage_small (Step StampMem) = omega arith
  stage_small (Step StampStore) = omega arith
  stage_small (Leave refused Mem end) = omega arith
  stage_small (Leave refused Store end) = omega arith

  -- no session has more calls left than that
  pub all_bounded : (doing : Job) → Bounds (most + 14) doing
  all_bounded job.Count = omega arith
  all_bounded job.Select = omega arith
  all_bounded (job.Open e n) = omega arith
  all_bounded (job.Read e t key) = omega arith
  all_bounded (job.Put e writes done r) = omega arith
  all_bounded (job.Commit c whole own) = omega (arith, stage_small c.stage)
  all_bounded (job.Leave Mem how r lost) = omega arith
  all_bounded (job.Leave Store how r lost) = omega arith

  pub job_small : (doing : Job) → job_left most doing < most + 14
  job_small job.Count = omega arith
  job_small job.Select = omega arith
  job_small (job.Open e n) = omega arith
  job_small (job.Read e t key) = omega arith
  job_small (job.Put e writes done r) = omega arith
  job_small (job.Commit c whole own) = omega (arith, stage_small c.stage)
  job_small (job.Leave Mem how r lost) = omega arith
  job_small (job.Leave Store how r lost) = omega arith

  -- the count of the writes that were put fits
  abbrev pub Counts : Job → Type 0
  Counts (job.Put e writes done r) = done < most
  Counts _ = Unit {0}

  pub falls : (doing : Job) → Counts doing → Bounds (job_left most doing) doing
  falls job.Count is = omega arith
  falls job.Select is = omega arith
  falls (job.Open e n) is = omega arith
  falls (job.Read e t key) is = omega arith
  falls (job.Put e writes done r) is = omega (arith, is)
  falls (job.Commit c whole own) is = omega arith
  falls (job.Leave Mem how r lost) is = omega arith
  falls (job.Leave Store how r lost) is = omega arith

  -- ---- what a statement begins

  begins_within : (records : List Record) (label : Label) (kind : TxKind) (small : Bool) (s : Statement) → Moves most (most + 14) (moving.begins records label kind small s)
  unfolding moving.begins
  begins_within records label kind small s = (refl, omega arith)

  outside_within : (number : ℕ) (records : List Record) (s : Statement) (j : Result EngineName ErrWord) (moved : Moved) → moving.OutsideTable number records s j moved → Moves most (most + 14) moved
  outside_within number records s (Err word) moved is = subst (Moves most (most + 14)) (sym is) tt
  outside_within number records s (Ok e) moved is = either_within (most + 14) _ _ moved is (begins_within records (moving.label_after number records) (moving.engine_kind e) true s) tt

  starts_outside : (catalog : List Table) (number : ℕ) (records : List Record) (s : Option Statement) (moved : Moved) → moving.StartsOutside catalog number records s moved → Moves most (most + 14) moved
  starts_outside catalog number records None moved is = subst (Moves most (most + 14)) (sym is) tt
  starts_outside catalog number records (Some statement.Commit) moved is = subst (Moves most (most + 14)) (sym is) tt
  starts_outside catalog number records (Some statement.Rollback) moved is = subst (Moves most (most + 14)) (sym is) tt
  starts_outside catalog number records (Some (statement.Begin begun)) moved is =
      either_within (most + 14) _ _ moved is (begins_within records (moving.label_after number records) (kind_begun begun) false (statement.Begin begun)) tt
  starts_outside catalog number records (Some (statement.Insert table values)) moved is = outside_within number records (statement.Insert table values) _ moved is
  starts_outside catalog number records (Some (statement.Select table names e)) moved is = outside_within number records (statement.Select table names e) _ moved is
  starts_outside catalog number records (Some (statement.Update table sets e)) moved is = outside_within number records (statement.Update table sets e) _ moved is
  starts_outside catalog number records (Some (statement.Delete table e)) moved is = outside_within number records (statement.Delete table e) _ moved is

  open_or_read : (catalog : List Table) (records : List Record) (live : Live) (o : Option ℕ) → Moves most (most + 14) (moving.open_or_read catalog records live o)
  open_or_read catalog records live None = (refl, omega arith)
  open_or_read catalog records live (Some n) = wider most (most + 12) (most + 14) _ _ (omega arith) (reads_within records live (moving.read_now catalog live.statement))

  inside_within : (catalog : List Table) (records : List Record) (live : Live) (j : Result EngineName ErrWord) → Moves most (most + 14) (moving.inside_by catalog records live j)
  inside_within catalog records live (Err word) = say_within (most + 14) records live (reply.Refused word) (omega arith)
  inside_within catalog records live (Ok e) = open_or_read catalog records live (moving.snapshot_of live e)

  table_within : (catalog : List Table) (records : List Record) (live : Live) (s : Statement) (moved : Moved) → moving.InsideTable catalog records live s moved → Moves most (most + 14) moved
  table_within catalog records live s moved (inl is) = subst (Moves most (most + 14)) (sym is) (starve_within (most + 14) records live (omega arith))
  table_within catalog records live s moved (inr is) =
      either_within (most + 14) _ _ moved is (inside_within catalog records (moving.says live s) (moving.judged catalog live.kind (Some s))) (starve_within (most + 14) records (moving.says live s) (omega arith))

  starts_inside : (catalog : List Table) (records : List Record) (live : Live) (s : Option Statement) (moved : Moved) → moving.StartsInside catalog records live s moved → Moves most (most + 14) moved
  starts_inside catalog records live None moved is = subst (Moves most (most + 14)) (sym is) (widen 10 (most + 14) (moving.commits records live false None) (omega arith) (commits_within records live false None))
  starts_inside catalog records live (Some statement.Commit) moved is = subst (Moves most (most + 14)) (sym is) (widen 10 (most + 14) (moving.commits records (moving.says live statement.Commit) true None) (omega arith) (commits_within records (moving.says live statement.Commit) true None))
  starts_inside catalog records live (Some statement.Rollback) moved is =
      subst (Moves most (most + 14)) (sym is) (wider most 3 (most + 14) _ _ (omega arith) (gives_up_within records (moving.says live statement.Rollback) ending.RolledBack reply.RolledBack false))
  starts_inside catalog records live (Some (statement.Begin begun)) moved is = subst (Moves most (most + 14)) (sym is) tt
  starts_inside catalog records live (Some (statement.Insert table values)) moved is = table_within catalog records live (statement.Insert table values) moved is
  starts_inside catalog records live (Some (statement.Select table names e)) moved is = table_within catalog records live (statement.Select table names e) moved is
  starts_inside catalog records live (Some (statement.Update table sets e)) moved is = table_within catalog records live (statement.Update table sets e) moved is
  starts_inside catalog records live (Some (statement.Delete table e)) moved is = table_within catalog records live (statement.Delete table e) moved is

  starts_stepping : (records : List Record) (live : Live) (c : Committing) (s : Option Statement) → Moves most (most + 14) (moving.start_stepping records live c s)
  starts_stepping records live c None = (refl, omega (arith, stage_small c.stage))
  starts_stepping records live c (Some statement.Commit) = (refl, omega (arith, stage_small c.stage))
  starts_stepping records live c _ = tt

  starts_ended : (records : List Record) (s : Option Statement) → Moves most (most + 14) (moving.start_ended records s)
  starts_ended records (Some statement.Commit) = tt
  starts_ended records (Some statement.Rollback) = tt
  starts_ended records _ = tt

  -- what a statement leaves
  pub starts_within : (catalog : List Table) (number : ℕ) (records : List Record) (there : At) (s : Option Statement) (moved : Moved) → moving.StartsAt catalog number records there s moved → Within most (most + 14) moved.at moved.turn
  starts_within catalog number records at.Outside s moved is = starts_outside catalog number records s moved is
  starts_within catalog number records (at.Inside live) s moved is = starts_inside catalog records live s moved is
  starts_within catalog number records (at.Stepping live c) s moved is = subst (Moves most (most + 14)) (sym is) (starts_stepping records live c s)
  starts_within catalog number records at.Ended s moved is = subst (Moves most (most + 14)) (sym is) (starts_ended records s)
  starts_within catalog number records (at.Asking live doing) s moved is = subst (Moves most (most + 14)) (sym is) tt

  -- what leaving a session leaves
  pub leaves_within : (records : List Record) (there : At) (moved : Moved) → moved ≡ moving.leave_at records there → Within most 3 moved.at moved.turn
  leaves_within records at.Outside moved is = subst (Moves most 3) (sym is) tt
  leaves_within records at.Ended moved is = subst (Moves most 3) (sym is) tt
  leaves_within records (at.Inside live) moved is = subst (Moves most 3) (sym is) (gives_up_within records live ending.RolledBack reply.RolledBack false)
  leaves_within records (at.Stepping live c) moved is = subst (Moves most 3) (sym is) tt
  leaves_within records (at.Asking live doing) moved is = subst (Moves most 3) (sym is) tt

  -- ---- what is left

  abbrev pub turns_left : At → Turn → ℕ
  turns_left there (turn.Said r) = 0
  turns_left (at.Asking live doing) (turn.Ask w) = job_left most doing
  turns_left _ (turn.Ask w) = 0

  pub left_less : (n : ℕ) (there : At) (t : Turn) → 0 < n → Within most n there t → turns_left there t < n
  left_less n there (turn.Said r) some h = some
  left_less n (at.Asking live doing) (turn.Ask w) some h = h.1
  left_less n _ (turn.Ask w) some h = absurd h

  stage_some : (stage : Stage) → 0 < stage_left stage
  stage_some (Step CloseMem) = omega arith
  stage_some (Step CloseStore) = omega arith
  stage_some (Step DrawMem) = omega arith
  stage_some (Step DrawStore) = omega arith
  stage_some (Step Check) = omega arith
  stage_some (Step StampMem) = omega arith
  stage_some (Step StampStore) = omega arith
  stage_some (Leave refused Mem end) = omega arith
  stage_some (Leave refused Store end) = omega arith

  pub some_left : (doing : Job) → 0 < job_left most doing
  some_left job.Count = omega arith
  some_left job.Select = omega arith
  some_left (job.Open e n) = omega arith
  some_left (job.Read e t key) = omega arith
  some_left (job.Put e writes done r) = omega arith
  some_left (job.Commit c whole own) = stage_some c.stage
  some_left (job.Leave Mem how r lost) = omega arith
  some_left (job.Leave Store how r lost) = omega arith
