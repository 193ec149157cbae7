-- Each way on from a statement leads to a reply, of which this holds where it holds of all that the statement may be answered.
use Rattle.std.specs.Prelude.{◌≡◌, ℕ, ◌+◌, List, Option, Some, None, Bool, true, false, cond, not, slice_get}
use Rattle.std.proofs.Common.{refl, sym, subst, inl, inr}
use Rattle.sk_rows.specs.declared.table.Table.{Table}
use Rattle.sk_rows.specs.declared.value.Value.{Value}
use Rattle.sk_rows.specs.declared.statement.Statement.{Statement}
use Rattle.sk_rows.specs.declared.statement.Statement.TheVariants as statement
use Rattle.sk_model.specs.declared.commit.Write.{Write}
use Rattle.sk_model.specs.declared.engine.EngineName.{EngineName}
use Rattle.sk_model.specs.declared.engine.EngineName.TheVariants.{Mem, Store}
use Rattle.sk_model.specs.declared.record.Record.{Record}
use Rattle.sk_model.specs.declared.record.TxKind.{TxKind}
use Rattle.sk_model.specs.declared.record.Ending.{Ending}
use Rattle.sk_model.specs.declared.reply.ErrWord.TheVariants as err
use Rattle.sk_model.specs.declared.reply.Reply.{Reply}
use Rattle.sk_model.specs.declared.reply.Reply.TheVariants as reply
use Rattle.sk_model.specs.declared.step.StepName.{StepName}
use Rattle.sk_model.specs.declared.call.EngineCall.TheVariants as call
use Rattle.sk_model.specs.declared.call.EngineFault.{EngineFault}
use Rattle.sk_model.specs.declared.call.EngineFault.TheVariants as fault
use Rattle.sk_model.specs.declared.call.EngineReply.TheVariants as answer
use Rattle.sk_model.specs.Database.{KeyedRows}
use Rattle.sk_model.specs.Names.{columns_at}
use Rattle.sk_model.specs.Replies.{Answer, comes_to}
use Rattle.sk_model.specs.RecordTalks.{number_or_none}
use Rattle.sk_model.specs.Asking.{table_named}
use Rattle.sk_model.specs.Spoken.{Outside, uses_label, is_lost}
use Rattle.sk_weave.specs.declared.answer.Selected.{Selected}
use Rattle.sk_commit.specs.declared.asking.RegistryReply.TheVariants as told
use Rattle.sk_commit.specs.declared.asking.Got.{Got}
use Rattle.sk_commit.specs.declared.asking.Got.TheVariants as given
use Rattle.sk_commit.specs.declared.committing.CommitEnd.{CommitEnd}
use Rattle.sk_commit.specs.declared.committing.CommitEnd.TheVariants.{Committed, CheckFailed, Spent, NoMemory}
use Rattle.sk_commit.specs.declared.committing.Committing.{Committing}
use Rattle.sk_commit.specs.declared.committing.Stepped.TheVariants.{Went, Early, Ended}
use Rattle.sk_commit.specs.declared.committing.Taken.{Taken}
use Rattle.sk_commit.specs.declared.committing.Taken.TheVariants as outcome
use Rattle.sk_commit.specs.Committing.{taken}
use Rattle.sk_commit.specs.Fits.{IsLoss, WishFits}
use Rattle.sk_session.specs.declared.turn.Turn.{Turn}
use Rattle.sk_session.specs.declared.turn.Turn.TheVariants as turn
use Rattle.sk_session.specs.declared.live.Live.{Live}
use Rattle.sk_session.specs.declared.live.Job.{Job}
use Rattle.sk_session.specs.declared.live.Job.TheVariants as job
use Rattle.sk_session.specs.declared.live.At.{At}
use Rattle.sk_session.specs.declared.live.At.TheVariants as at
use Rattle.sk_session.specs.declared.live.Moved.{Moved}
use Rattle.sk_session.specs.Moving.{on, wished, put_wish, opened_at, has_written, selects, noted_open, noted_select, noted_put, at_after, drops, first_opened, next_opened, give_up, lose, lose_by, starve, goes_well, closes, heard, hears, say, put_at, put_next, read_now, read_by, read_for, behind_open, answer_in, answer_now, answer_by, rows_come, fault_at_read, commits, end_reply, went_on, stepped, commit_goes, ask_open, count_goes, open_goes, select_goes, read_goes, put_goes, is_begin, Either, GoesAs}
use Rattle.sk_session.specs.Printed.{IsPlain}
use Rattle.sk_session.proofs.Judged.{answer_kept}
use Rattle.sk_session.proofs.Used.{answer_used}
use Rattle.sk_session.proofs.Replying.{put_loss, open_loss}

-- a reply that is told behind an answer: it loses no transaction, and is no word of the table of refusals
abbrev pub IsAnswer : Reply → Type 0
IsAnswer r = (is_lost r ≡ false) × (uses_label Outside r ≡ true)

-- what a statement comes to over its table
plain_told : (catalog : List Table) (t : ℕ) (s : Statement) (rows : KeyedRows) (a : Answer) → IsPlain s → answer_in catalog s rows (Some t) ≡ Some a → IsAnswer a.0
plain_told catalog t s rows a plain is =
    let e : comes_to (columns_at catalog t) t s rows ≡ a = (cc) in
    subst (λ (y : Answer). IsAnswer y.0) e (answer_kept (columns_at catalog t) t s rows, (answer_used (columns_at catalog t) t s rows plain).0)

answer_told : (catalog : List Table) (s : Statement) (rows : KeyedRows) (t : Option ℕ) (a : Answer) → table_named catalog s ≡ t → answer_in catalog s rows t ≡ Some a → IsAnswer a.0
answer_told catalog s rows None a named is = absurd cc
answer_told catalog (statement.Begin begun) rows (Some t) a named is = absurd cc
answer_told catalog statement.Commit rows (Some t) a named is = absurd cc
answer_told catalog statement.Rollback rows (Some t) a named is = absurd cc
answer_told catalog (statement.Insert table values) rows (Some t) a named is = plain_told catalog t (statement.Insert table values) rows a (refl, refl) is
answer_told catalog (statement.Select table names e) rows (Some t) a named is = plain_told catalog t (statement.Select table names e) rows a (refl, refl) is
answer_told catalog (statement.Update table sets e) rows (Some t) a named is = plain_told catalog t (statement.Update table sets e) rows a (refl, refl) is
answer_told catalog (statement.Delete table e) rows (Some t) a named is = plain_told catalog t (statement.Delete table e) rows a (refl, refl) is

now_told : (catalog : List Table) (o : Option Statement) (rows : KeyedRows) (a : Answer) → answer_now catalog o rows ≡ Some a → IsAnswer a.0
now_told catalog None rows a is = absurd cc
now_told catalog (Some s) rows a is = answer_told catalog s rows (table_named catalog s) a refl is

-- what is to hold of where a session stands and its reply
module _ (P : At → Reply → Type 0) where
  -- it holds of all that the statement of a transaction may be answered, one outside of BEGIN or one of this kind
  pub record Replies (small : Bool) (kind : TxKind) : Type 0 where
    pub lost : (r : Reply) → is_lost r ≡ true → P (at_after (not small)) r
    pub kept : small ≡ false → (now : Live) → now.kind ≡ kind → (r : Reply) → IsAnswer r → P (at.Inside now) r
    pub closed : small ≡ true → (r : Reply) → uses_label Outside r ≡ true → P at.Outside r

  -- and of all that a commit may come to, and its step
  abbrev pub Ends : Bool → Option Reply → Type 0
  Ends whole own = ((end : CommitEnd) → P at.Outside (end_reply end own)) × (whole ≡ false → (now : Live) (c : Committing) (name : StepName) (n : Option ℕ) → P (at.Stepping now c) (reply.Step name n))

  abbrev pub JobLeads : Live → Job → Type 0
  JobLeads live job.Count = Replies live.small live.kind
  JobLeads live (job.Open e n) = Replies live.small live.kind
  JobLeads live job.Select = Replies live.small live.kind
  JobLeads live (job.Read e t key) = Replies live.small live.kind
  JobLeads live (job.Put e writes done r) = Replies live.small live.kind × IsAnswer r
  JobLeads live (job.Commit c whole own) = Ends whole own
  JobLeads live (job.Leave e how r lost) = P (at_after lost) r

  abbrev pub WaitLeads : At → Type 0
  WaitLeads (at.Asking live doing) = JobLeads live doing
  WaitLeads _ = ⊥

  abbrev pub TurnLeads : At → Turn → Type 0
  TurnLeads there (turn.Ask w) = WaitLeads there
  TurnLeads there (turn.Said r) = P there r

  abbrev pub Leads : Moved → Type 0
  Leads moved = TurnLeads moved.at moved.turn

  pub either_leads : (x y moved : Moved) → Either x y moved → Leads x → Leads y → Leads moved
  either_leads x y moved (inl is) px py = subst Leads (sym is) px
  either_leads x y moved (inr is) px py = subst Leads (sym is) py

  -- ---- the transaction is over

  pub drops_leads : (records : List Record) (live : Live) (e : Option EngineName) (how : Ending) (r : Reply) (lost : Bool) → P (at_after lost) r → Leads (drops records live e how r lost)
  drops_leads records live None how r lost p = p
  drops_leads records live (Some e) how r lost p = p

  pub give_up_leads : (records : List Record) (live : Live) (how : Ending) (r : Reply) (lost : Bool) → P (at_after lost) r → Leads (give_up records live how r lost)
  give_up_leads records live how r lost p = drops_leads records live (first_opened live) how r lost p

  lose_leads : (records : List Record) (live : Live) (how : Ending) (r : Reply) → Replies live.small live.kind → is_lost r ≡ true → Leads (lose records live how r)
  lose_leads records live how r h lost = give_up_leads records live how r (not live.small) (h.lost r lost)

  pub starved_leads : (records : List Record) (live : Live) → P (at_after (not live.small)) (reply.Refused err.Memory) → Leads (starve records live)
  unfolding starve
  starved_leads records live p = give_up_leads records live _ (reply.Refused err.Memory) (not live.small) p

  starve_leads : (records : List Record) (live : Live) → Replies live.small live.kind → Leads (starve records live)
  starve_leads records live h = starved_leads records live (h.lost (reply.Refused err.Memory) refl)

  -- an engine's fault, which is no read that has to wait
  fault_leads : (records : List Record) (live : Live) (e : EngineName) (f : EngineFault) → Replies live.small live.kind → IsLoss f → Leads (lose_by records live e f)
  fault_leads records live e (fault.Old snapshot horizon) h loss = lose_leads records live _ _ h refl
  fault_leads records live e (fault.Conflict by why) h loss = lose_leads records live _ _ h refl
  fault_leads records live e fault.Device h loss = lose_leads records live _ _ h refl
  fault_leads records live e fault.NoMemory h loss = lose_leads records live _ _ h refl
  fault_leads records live e (fault.Busy by) h loss = absurd loss

  -- ---- the statement is answered this

  small_ends : (small : Bool) (kind : TxKind) (r : Reply) → Replies small kind → small ≡ true → IsAnswer r → Ends true (Some r)
  small_ends small kind r h is told = (by, λ no. absurd cc)
    where
      by : (end : CommitEnd) → P at.Outside (end_reply end (Some r))
      by (Committed mem store) = h.closed is r told.1
      by (CheckFailed point mem store) = h.closed is _ refl
      by (Spent engine mem) = h.closed is _ refl
      by NoMemory = h.closed is _ refl

  closes_leads : (records : List Record) (live : Live) (r : Reply) (well : Bool) → Replies live.small live.kind → live.small ≡ true → IsAnswer r → Leads (closes records live r well)
  closes_leads records live r true h small told = small_ends live.small live.kind r h small told
  closes_leads records live r false h small told = give_up_leads records live _ r false (h.closed small r told.1)

  by_cond : (b : Bool) (x y : Moved) → (b ≡ true → Leads x) → (b ≡ false → Leads y) → Leads (cond b x y)
  by_cond true x y f g = f refl
  by_cond false x y f g = g refl

  say_leads : (records : List Record) (live : Live) (r : Reply) → Replies live.small live.kind → IsAnswer r → Leads (say records live r)
  unfolding say
  say_leads records live r h told = by_cond live.small (closes records live r (goes_well r)) (hears records live r) (λ small. closes_leads records live r (goes_well r) h small told) (λ declared. h.kept declared (heard live r) refl r told)

  -- inside of BEGIN it may be a word of the table too
  pub say_declared : (records : List Record) (live : Live) (r : Reply) → live.small ≡ false → P (at.Inside (heard live r)) r → Leads (say records live r)
  unfolding say
  say_declared records live r declared p = by_cond live.small (closes records live r (goes_well r)) (hears records live r) (λ small. absurd (cc (small, declared))) (λ is. p)

  put_at_leads : (records : List Record) (live : Live) (e : EngineName) (writes : List Write) (done : ℕ) (r : Reply) → Replies live.small live.kind → IsAnswer r → (w : Option Write) → Leads (put_at records live e writes done r w)
  put_at_leads records live e writes done r h told None = say_leads records live r h told
  put_at_leads records live e writes done r h told (Some w) = (h, told)

  put_next_leads : (records : List Record) (live : Live) (e : EngineName) (writes : List Write) (done : ℕ) (r : Reply) → Replies live.small live.kind → IsAnswer r → Leads (put_next records live e writes done r)
  unfolding put_next
  put_next_leads records live e writes done r h told = put_at_leads records live e writes done r h told (slice_get writes done)

  -- ---- over its table

  read_by_leads : (records : List Record) (live : Live) → Replies live.small live.kind → (x : Option (EngineName × ℕ × Option Value)) → Leads (read_by records live x)
  read_by_leads records live h None = starve_leads records live h
  read_by_leads records live h (Some r) = h

  pub read_for_leads : (catalog : List Table) (records : List Record) (live : Live) → Replies live.small live.kind → Leads (read_for catalog records live)
  read_for_leads catalog records live h = read_by_leads records live h (read_now catalog live.statement)

  rows_come_leads : (catalog : List Table) (records : List Record) (live : Live) (e : EngineName) (rows : KeyedRows) → Replies live.small live.kind → Leads (rows_come catalog records live e rows)
  rows_come_leads catalog records live e rows h = by (answer_now catalog live.statement rows) refl
    where
      by : (a : Option Answer) → answer_now catalog live.statement rows ≡ a → Leads (answer_by records live e a)
      by None is = starve_leads records live h
      by (Some a) is = put_next_leads records live e a.1 0 a.0 h (now_told catalog live.statement rows a is)

  behind_open_leads : (catalog : List Table) (records : List Record) (live : Live) (begins : Bool) → Replies live.small live.kind → Leads (behind_open catalog records live begins)
  behind_open_leads catalog records live true h = say_leads records live _ h (refl, refl)
  behind_open_leads catalog records live false h = read_for_leads catalog records live h

  fault_at_read_leads : (records : List Record) (live : Live) (e : EngineName) (f : EngineFault) → Replies live.small live.kind → Leads (fault_at_read records live e f)
  fault_at_read_leads records live e (fault.Busy by) h = say_leads records live _ h (refl, refl)
  fault_at_read_leads records live e (fault.Old snapshot horizon) h = fault_leads records live e (fault.Old snapshot horizon) h tt
  fault_at_read_leads records live e (fault.Conflict by why) h = fault_leads records live e (fault.Conflict by why) h tt
  fault_at_read_leads records live e fault.Device h = fault_leads records live e fault.Device h tt
  fault_at_read_leads records live e fault.NoMemory h = fault_leads records live e fault.NoMemory h tt

  -- ---- answers

  or_starve : (records : List Record) (live : Live) (x moved : Moved) → Either x (starve records live) moved → Leads x → Replies live.small live.kind → Leads moved
  or_starve records live x moved is goes h = either_leads x (starve records live) moved is goes (starve_leads records live h)

  count_leads : (records : List Record) (live : Live) (got : Got) → Replies live.small live.kind → Leads (count_goes records live got)
  count_leads records live (given.Reg (told.Number n)) h = h
  count_leads records live _ h = starve_leads records live h

  open_leads : (catalog : List Table) (records : List Record) (live : Live) (e : EngineName) (n : ℕ) (got : Got) (moved : Moved) → Replies live.small live.kind → WishFits (on e (call.Open live.label n)) got
      → Either (open_goes catalog records (noted_open live e n got) e got) (starve records (noted_open live e n got)) moved → Leads moved
  open_leads catalog records live Mem n (given.Engine answer.Done) moved h fits is = or_starve records (opened_at live Mem n) _ moved is (behind_open_leads catalog records (opened_at live Mem n) (is_begin live.statement) h) h
  open_leads catalog records live Store n (given.Engine answer.Done) moved h fits is = or_starve records (opened_at live Store n) _ moved is (behind_open_leads catalog records (opened_at live Store n) (is_begin live.statement) h) h
  open_leads catalog records live e n (given.Engine (answer.Fault f)) moved h fits is = or_starve records live _ moved is (fault_leads records live e f h (open_loss live e n f fits)) h
  open_leads catalog records live e n _ moved h fits is = or_starve records live _ moved is (starve_leads records live h) h

  -- the transaction with the selection, where one was made
  abbrev with_selection : Live → Selected → Bool → Live
  with_selection live s made = cond made (record live { selected = Some (record { a = number_or_none live.mem; b = s.b; commit = false }) }) live

  selected_leads : (records : List Record) (live : Live) (s : Selected) (moved : Moved) → Replies live.small live.kind → Either (ask_open records (selects live s) Store s.b) (starve records (selects live s)) moved → Leads moved
  selected_leads records live s moved h is = by s.made is
    where
      by : (made : Bool) → Either (ask_open records (with_selection live s made) Store s.b) (starve records (with_selection live s made)) moved → Leads moved
      by true e = or_starve records (with_selection live s true) _ moved e h h
      by false e = or_starve records live _ moved e h h

  select_leads : (records : List Record) (live : Live) (got : Got) (moved : Moved) → Replies live.small live.kind → Either (select_goes records (noted_select live got) got) (starve records (noted_select live got)) moved → Leads moved
  select_leads records live (given.Reg (told.Selected s)) moved h is = selected_leads records live s moved h is
  select_leads records live (given.Reg (told.Recycled r)) moved h is = or_starve records live _ moved is (lose_leads records live _ (reply.Recycled r) h refl) h
  select_leads records live _ moved h is = or_starve records live _ moved is (starve_leads records live h) h

  read_leads : (catalog : List Table) (records : List Record) (live : Live) (e : EngineName) (key : Option Value) (got : Got) → Replies live.small live.kind → Leads (read_goes catalog records live e key got)
  read_leads catalog records live e None (given.Engine (answer.Rows rs)) h = rows_come_leads catalog records live e rs h
  read_leads catalog records live e None (given.Engine (answer.Fault f)) h = fault_at_read_leads records live e f h
  read_leads catalog records live e None _ h = starve_leads records live h
  read_leads catalog records live e (Some key) (given.Engine (answer.Found row)) h = rows_come_leads catalog records live e _ h
  read_leads catalog records live e (Some key) (given.Engine (answer.Fault f)) h = fault_at_read_leads records live e f h
  read_leads catalog records live e (Some key) _ h = starve_leads records live h

  put_leads : (records : List Record) (live : Live) (e : EngineName) (writes : List Write) (done : ℕ) (r : Reply) (got : Got) (moved : Moved) → Replies live.small live.kind → IsAnswer r → WishFits (put_wish live e (slice_get writes done)) got
      → Either (put_goes records (noted_put live e got) e writes done r got) (starve records (noted_put live e got)) moved → Leads moved
  put_leads records live Mem writes done r (given.Engine answer.Done) moved h told fits is = or_starve records (has_written live Mem) _ moved is (put_next_leads records (has_written live Mem) Mem writes (done + 1) r h told) h
  put_leads records live Store writes done r (given.Engine answer.Done) moved h told fits is = or_starve records (has_written live Store) _ moved is (put_next_leads records (has_written live Store) Store writes (done + 1) r h told) h
  put_leads records live e writes done r (given.Engine (answer.Fault f)) moved h told fits is = or_starve records live _ moved is (fault_leads records live e f h (put_loss live e (slice_get writes done) f fits)) h
  put_leads records live e writes done r _ moved h told fits is = or_starve records live _ moved is (starve_leads records live h) h

  -- ---- a commit

  went_leads : (records : List Record) (live : Live) (d : Committing) (step : StepName) (n : Option ℕ) (whole : Bool) (own : Option Reply) → Ends whole own → Leads (went_on records live d step n whole own)
  went_leads records live d step n true own h = h
  went_leads records live d step n false own h = h.1 refl live d step n

  commit_leads : (records : List Record) (live : Live) (t : Taken) (whole : Bool) (own : Option Reply) → Ends whole own → Leads (commit_goes records live t whole own)
  commit_leads records live (outcome.More d) whole own h = h
  commit_leads records live (outcome.Step (Went d step n)) whole own h = went_leads records (stepped live step n) d step n whole own h
  commit_leads records live (outcome.Step (Early d floor counter)) whole own h = h
  commit_leads records live (outcome.Step (Ended end)) whole own h = h.0 end

  -- an answer of the kind that was asked for
  pub take_leads : (catalog : List Table) (records : List Record) (live : Live) (doing : Job) (got : Got) (moved : Moved) → JobLeads live doing → WishFits (wished live doing) got → GoesAs catalog records live doing got moved → Leads moved
  take_leads catalog records live job.Count got moved h fits is = or_starve records live _ moved is (count_leads records live got h) h
  take_leads catalog records live (job.Open e n) got moved h fits is = open_leads catalog records live e n got moved h fits is
  take_leads catalog records live job.Select got moved h fits is = select_leads records live got moved h is
  take_leads catalog records live (job.Read e t key) got moved h fits is = or_starve records live _ moved is (read_leads catalog records live e key got h) h
  take_leads catalog records live (job.Put e writes done r) got moved h fits is = put_leads records live e writes done r got moved h.0 h.1 fits is
  take_leads catalog records live (job.Commit c whole own) got moved h fits is = subst Leads (sym is) (commit_leads records live (taken c got) whole own h)
  take_leads catalog records live (job.Leave e how r lost) got moved h fits is = subst Leads (sym is) (drops_leads records live (next_opened live e) how r lost h)
