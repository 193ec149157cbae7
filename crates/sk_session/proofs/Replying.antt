-- An answer to a call goes on with the line that is answered.
use Rattle.std.specs.Prelude.{◌≡◌, ℕ, ◌+◌, List, [], ◌++◌, Option, Some, None, Bool, true, false, cond, slice_get}
use Rattle.std.proofs.Common.{refl, sym, ap, subst}
use Rattle.sk_rows.specs.declared.table.Table.{Table}
use Rattle.sk_rows.specs.declared.value.Value.{Value}
use Rattle.sk_rows.specs.declared.statement.Statement.{Statement}
use Rattle.sk_model.specs.declared.commit.Write.{Write}
use Rattle.sk_model.specs.declared.engine.EngineName.{EngineName}
use Rattle.sk_model.specs.declared.engine.EngineName.TheVariants.{Mem, Store}
use Rattle.sk_model.specs.declared.record.Said.{Said}
use Rattle.sk_model.specs.declared.record.Record.{Record}
use Rattle.sk_model.specs.declared.reply.Reply.{Reply}
use Rattle.sk_model.specs.declared.reply.Reply.TheVariants as reply
use Rattle.sk_model.specs.declared.step.StepName.{StepName}
use Rattle.sk_model.specs.declared.step.StepName.TheVariants.{CloseMem, CloseStore, DrawMem, DrawStore, Check, StampMem, StampStore}
use Rattle.sk_model.specs.declared.call.EngineCall.TheVariants as call
use Rattle.sk_model.specs.declared.call.EngineFault.{EngineFault}
use Rattle.sk_model.specs.declared.call.EngineReply.TheVariants as answer
use Rattle.sk_model.specs.RecordTalks.{number_or_none}
use Rattle.sk_model.specs.Spoken.{Seat, Inside}
use Rattle.sk_weave.specs.declared.answer.Selected.{Selected}
use Rattle.sk_commit.specs.declared.asking.RegistryReply.TheVariants as told
use Rattle.sk_commit.specs.declared.asking.Got.{Got}
use Rattle.sk_commit.specs.declared.asking.Got.TheVariants as given
use Rattle.sk_commit.specs.declared.committing.Committing.{Committing}
use Rattle.sk_commit.specs.declared.committing.Stepped.TheVariants.{Went, Early, Ended}
use Rattle.sk_commit.specs.declared.committing.Taken.{Taken}
use Rattle.sk_commit.specs.declared.committing.Taken.TheVariants as outcome
use Rattle.sk_commit.specs.Committing.{taken}
use Rattle.sk_commit.specs.Fits.{IsLoss, WishFits}
use Rattle.sk_session.specs.declared.live.Live.{Live}
use Rattle.sk_session.specs.declared.live.Job.{Job}
use Rattle.sk_session.specs.declared.live.Job.TheVariants as job
use Rattle.sk_session.specs.declared.live.Moved.{Moved}
use Rattle.sk_session.specs.Moving.{on, put_wish, wished, opened_at, has_written, selects, noted_open, noted_select, noted_put, record_now, starve, stepped, went_on, commit_goes, ask_open, count_goes, open_goes, select_goes, read_goes, put_goes, next_opened, is_begin, Either, GoesAs}
use Rattle.sk_session.specs.Printed.{seat_after, Adds, Hears, IsTold, Closes, BySteps, JobFits}
use Rattle.sk_session.proofs.Recorded.{with_last_seam}
use Rattle.sk_session.proofs.Lines.{all, Goes, either_goes, finish_goes, drops_goes, lose_goes, starve_goes, fault_goes, put_next_goes, rows_come_goes, behind_open_goes, fault_at_read_goes}

pub put_loss : (live : Live) (e : EngineName) (o : Option Write) (f : EngineFault) → WishFits (put_wish live e o) (given.Engine (answer.Fault f)) → IsLoss f
put_loss live Mem None f fits = absurd fits
put_loss live Store None f fits = absurd fits
put_loss live Mem (Some w) f fits = fits
put_loss live Store (Some w) f fits = fits

pub open_loss : (live : Live) (e : EngineName) (n : ℕ) (f : EngineFault) → WishFits (on e (call.Open live.label n)) (given.Engine (answer.Fault f)) → IsLoss f
open_loss live Mem n f fits = fits
open_loss live Store n f fits = fits

module _ (seat : Seat) (o : Option Statement) (front : List Record) (open_record : Record) where
  abbrev To : List Said → Moved → Type 0
  To said moved = Goes seat o front open_record said moved

  abbrev rows : List Record
  rows = all seat o front open_record

  -- one of two moves, of which the second is that memory was wanted
  or_starve : (live : Live) (x moved : Moved) → Either x (starve rows live) moved → To live.said x → Hears seat o live → To live.said moved
  or_starve live x moved is goes h = either_goes seat o front open_record live.said x (starve rows live) moved is goes (starve_goes seat o front open_record live h)

  count_to : (live : Live) (got : Got) → Hears seat o live → To live.said (count_goes rows live got)
  count_to live (given.Reg (told.Number n)) h = (refl, refl, h)
  count_to live _ h = starve_goes seat o front open_record live h

  open_to : (catalog : List Table) (live : Live) (e : EngineName) (n : ℕ) (got : Got) (moved : Moved) → Hears seat o live → WishFits (on e (call.Open live.label n)) got
      → Either (open_goes catalog rows (noted_open live e n got) e got) (starve rows (noted_open live e n got)) moved → To live.said moved
  open_to catalog live Mem n (given.Engine answer.Done) moved h fits is = or_starve (opened_at live Mem n) _ moved is (behind_open_goes seat o front open_record catalog (opened_at live Mem n) (is_begin live.statement) h) h
  open_to catalog live Store n (given.Engine answer.Done) moved h fits is = or_starve (opened_at live Store n) _ moved is (behind_open_goes seat o front open_record catalog (opened_at live Store n) (is_begin live.statement) h) h
  open_to catalog live e n (given.Engine (answer.Fault f)) moved h fits is = or_starve live _ moved is (fault_goes seat o front open_record live e f h (open_loss live e n f fits)) h
  open_to catalog live e n _ moved h fits is = or_starve live _ moved is (starve_goes seat o front open_record live h) h

  -- the transaction with the selection, where one was made
  abbrev with_selection : Live → Selected → Bool → Live
  with_selection live s made = cond made (record live { selected = Some (record { a = number_or_none live.mem; b = s.b; commit = false }) }) live

  selected_to : (live : Live) (s : Selected) (moved : Moved) → Hears seat o live → Either (ask_open rows (selects live s) Store s.b) (starve rows (selects live s)) moved → To live.said moved
  selected_to live s moved h is = by s.made is
    where
      by : (made : Bool) → Either (ask_open rows (with_selection live s made) Store s.b) (starve rows (with_selection live s made)) moved → To live.said moved
      by true e = or_starve (with_selection live s true) _ moved e (refl, refl, h) h
      by false e = or_starve live _ moved e (refl, refl, h) h

  select_to : (live : Live) (got : Got) (moved : Moved) → Hears seat o live → Either (select_goes rows (noted_select live got) got) (starve rows (noted_select live got)) moved → To live.said moved
  select_to live (given.Reg (told.Selected s)) moved h is = selected_to live s moved h is
  select_to live (given.Reg (told.Recycled r)) moved h is = or_starve live _ moved is (lose_goes seat o front open_record live _ (reply.Recycled r) h refl) h
  select_to live _ moved h is = or_starve live _ moved is (starve_goes seat o front open_record live h) h

  read_to : (catalog : List Table) (live : Live) (e : EngineName) (key : Option Value) (got : Got) → Hears seat o live → To live.said (read_goes catalog rows live e key got)
  read_to catalog live e None (given.Engine (answer.Rows rs)) h = rows_come_goes seat o front open_record catalog live e rs h
  read_to catalog live e None (given.Engine (answer.Fault f)) h = fault_at_read_goes seat o front open_record live e f h
  read_to catalog live e None _ h = starve_goes seat o front open_record live h
  read_to catalog live e (Some key) (given.Engine (answer.Found row)) h = rows_come_goes seat o front open_record catalog live e _ h
  read_to catalog live e (Some key) (given.Engine (answer.Fault f)) h = fault_at_read_goes seat o front open_record live e f h
  read_to catalog live e (Some key) _ h = starve_goes seat o front open_record live h

  put_to : (live : Live) (e : EngineName) (writes : List Write) (done : ℕ) (r : Reply) (got : Got) (moved : Moved) → Hears seat o live → IsTold seat r → WishFits (put_wish live e (slice_get writes done)) got
      → Either (put_goes rows (noted_put live e got) e writes done r got) (starve rows (noted_put live e got)) moved → To live.said moved
  put_to live Mem writes done r (given.Engine answer.Done) moved h told fits is = or_starve (has_written live Mem) _ moved is (put_next_goes seat o front open_record (has_written live Mem) Mem writes (done + 1) r h told) h
  put_to live Store writes done r (given.Engine answer.Done) moved h told fits is = or_starve (has_written live Store) _ moved is (put_next_goes seat o front open_record (has_written live Store) Store writes (done + 1) r h told) h
  put_to live e writes done r (given.Engine (answer.Fault f)) moved h told fits is = or_starve live _ moved is (fault_goes seat o front open_record live e f h (put_loss live e (slice_get writes done) f fits)) h
  put_to live e writes done r _ moved h told fits is = or_starve live _ moved is (starve_goes seat o front open_record live h) h

  -- ---- a commit

  record Same (live new : Live) : Type 0 where
    said : new.said ≡ live.said
    closes : (whole : Bool) (own : Option Reply) → Closes seat o live whole own → Closes seat o new whole own
    steps : BySteps seat o live → BySteps seat o new

  step_same : (live : Live) (step : StepName) (n : Option ℕ) → Same live (stepped live step n)
  step_same live CloseMem n = record { said = refl; closes = λ w q h. h; steps = λ h. h }
  step_same live CloseStore n = record { said = refl; closes = λ w q h. h; steps = λ h. h }
  step_same live DrawMem n = record { said = refl; closes = λ w q h. h; steps = λ h. h }
  step_same live DrawStore n = record { said = refl; closes = λ w q h. h; steps = λ h. h }
  step_same live Check n = record { said = refl; closes = λ w q h. h; steps = λ h. h }
  step_same live StampMem n = record { said = refl; closes = λ w q h. h; steps = λ h. h }
  step_same live StampStore n = record { said = refl; closes = λ w q h. h; steps = λ h. h }

  -- a step was answered
  paused : (said : List Said) (live : Live) (d : Committing) (step : StepName) (n : Option ℕ) (own : Option Reply) → live.said ≡ said → BySteps seat o live → To said (went_on rows live d step n false own)
  paused said live d step n own same b = record {
    last = record_now live;
    part = [];
    are = with_last_seam front open_record (record_now live);
    says = ap (λ ss. ss ++ []) same;
    adds = subst (λ q. Adds seat q (reply.Step step n) []) (sym b.1) refl;
    stands = subst (λ x. Inside ≡ seat_after x o (reply.Step step n)) (sym b.0) (subst (λ q. Inside ≡ seat_after Inside q (reply.Step step n)) (sym b.1) refl);
    clear = (b.2, b.3, (front, open_record, refl));
  }

  went_to : (live : Live) (d : Committing) (step : StepName) (n : Option ℕ) (whole : Bool) (own : Option Reply) → Closes seat o live whole own → To live.said (went_on rows (stepped live step n) d step n whole own)
  went_to live d step n true own c = (refl, (step_same live step n).said, (step_same live step n).closes true own c)
  went_to live d step n false own c = paused live.said (stepped live step n) d step n own (step_same live step n).said ((step_same live step n).steps (c.0 refl))

  commit_to : (live : Live) (t : Taken) (whole : Bool) (own : Option Reply) → Closes seat o live whole own → To live.said (commit_goes rows live t whole own)
  commit_to live (outcome.More d) whole own c = (refl, refl, c)
  commit_to live (outcome.Step (Went d step n)) whole own c = went_to live d step n whole own c
  commit_to live (outcome.Step (Early d floor counter)) whole own c = (refl, refl, c)
  commit_to live (outcome.Step (Ended end)) whole own c = finish_goes seat o front open_record live _ _ false (c.1 end)

  -- an answer of the kind that was asked for
  pub take_to : (catalog : List Table) (live : Live) (doing : Job) (got : Got) (moved : Moved) → JobFits seat o live doing → WishFits (wished live doing) got → GoesAs catalog rows live doing got moved → To live.said moved
  take_to catalog live job.Count got moved h fits is = or_starve live _ moved is (count_to live got h) h
  take_to catalog live (job.Open e n) got moved h fits is = open_to catalog live e n got moved h fits is
  take_to catalog live job.Select got moved h fits is = select_to live got moved h is
  take_to catalog live (job.Read e t key) got moved h fits is = or_starve live _ moved is (read_to catalog live e key got h) h
  take_to catalog live (job.Put e writes done r) got moved h fits is = put_to live e writes done r got moved h.0 h.1 fits is
  take_to catalog live (job.Commit c whole own) got moved h fits is = subst (To live.said) (sym is) (commit_to live (taken c got) whole own h)
  take_to catalog live (job.Leave e how r lost) got moved h fits is = subst (To live.said) (sym is) (drops_goes seat o front open_record live (next_opened live e) how r lost h)
