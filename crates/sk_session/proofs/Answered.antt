-- What the answer to a call of a statement, or to the end of an opening, leaves of the facts of its transaction.
use Rattle.std.specs.Prelude.{◌≡◌, ℕ, ◌+◌, List, Option, Some, None, Bool, true, false, cond, is_some, slice_get}
use Rattle.std.proofs.Common.{refl, ◌∙◌}
use Rattle.sk_rows.specs.declared.table.Table.{Table}
use Rattle.sk_rows.specs.declared.value.Value.{Value}
use Rattle.sk_model.specs.declared.commit.Write.{Write}
use Rattle.sk_model.specs.declared.point.Point.{Point}
use Rattle.sk_model.specs.declared.engine.EngineName.{EngineName}
use Rattle.sk_model.specs.declared.engine.EngineName.TheVariants.{Mem, Store}
use Rattle.sk_model.specs.declared.record.Record.{Record}
use Rattle.sk_model.specs.declared.reply.Reply.{Reply}
use Rattle.sk_model.specs.declared.call.EngineCall.TheVariants as call
use Rattle.sk_model.specs.declared.call.EngineReply.TheVariants as answer
use Rattle.sk_model.specs.Asking.{first_engine, read_call}
use Rattle.sk_model.specs.RecordTalks.{number_or_none}
use Rattle.sk_weave.specs.declared.answer.Selected.{Selected}
use Rattle.sk_commit.specs.declared.asking.RegistryCall.TheVariants as reg
use Rattle.sk_commit.specs.declared.asking.RegistryReply.TheVariants as told
use Rattle.sk_commit.specs.declared.asking.Wish.TheVariants as wish
use Rattle.sk_commit.specs.declared.asking.Got.{Got}
use Rattle.sk_commit.specs.declared.asking.Got.TheVariants as given
use Rattle.sk_session.specs.declared.live.Live.{Live}
use Rattle.sk_session.specs.declared.live.Job.{Job}
use Rattle.sk_session.specs.declared.live.Job.TheVariants as job
use Rattle.sk_session.specs.declared.live.At.TheVariants as at
use Rattle.sk_session.specs.declared.live.Moved.{Moved}
use Rattle.sk_session.specs.Moving.{on, counter_wish, put_wish, opened_at, has_written, selects, noted_open, noted_select, noted_put, starve, count_goes, open_goes, select_goes, read_goes, put_goes, goes, Either}
use Rattle.sk_session.specs.EachTalk.{Unselected, OrderlyJob}
use Rattle.sk_session.specs.Facts.{Facts, facts_after, with_point, OpensAt}
use Rattle.sk_session.proofs.SoFar.{live_facts, HasFacts, either_has, asks_has, lose_has, starve_has, put_next_has, behind_open_has, rows_come_has, fault_at_read_has}

-- ---- where the answer leads

-- what holds of a transaction that waits for this: as it asks for the counter no engine is open, and as it asks for a selection the memory
-- engine is
abbrev pub Before : Live → Job → Type 0
Before live job.Count = (live.mem ≡ None) × OrderlyJob live job.Count
Before live job.Select = (is_some live.mem ≡ true) × OrderlyJob live job.Select
Before live doing = OrderlyJob live doing

module _ (catalog : List Table) (records : List Record) (live : Live) where
  abbrev Has : Job → Got → Live → Moved → Type 0
  Has doing got new moved = HasFacts (at.Asking live doing) got (Before live doing) records (live_facts new) moved

  opening : (n : ℕ) (e : EngineName) → first_engine live.kind ≡ e → Before live job.Count → OpensAt (at.Asking live job.Count) (given.Reg (told.Number n)) (at.Asking live (job.Open e n))
  opening n Mem is b = (live, refl, is, refl)
  opening n Store is b = by live.mem b.0
    where
      by : (mem : Option ℕ) → mem ≡ None → OpensAt (at.Asking live job.Count) (given.Reg (told.Number n)) (at.Asking (record live { mem = mem }) (job.Open Store n))
      by None none = (live, refl, is, refl)
      by (Some a) none = absurd cc

  in_order : (n : ℕ) (e : EngineName) → Before live job.Count → OrderlyJob live (job.Open e n)
  in_order n Mem b = b.1
  in_order n Store b = tt

  count_has : (got : Got) → Has job.Count got live (count_goes records live got)
  count_has (given.Reg (told.Number n)) = asks_has _ _ _ records live (job.Open (first_engine live.kind) n) _ (in_order n (first_engine live.kind)) (opening n (first_engine live.kind) refl)
  count_has _ = starve_has _ _ _ records live

  opened_order : (e : EngineName) (n : ℕ) → Before live (job.Open e n) → Unselected (opened_at live e n)
  opened_order Mem n b = λ none. b.1
  opened_order Store n b = λ none. absurd cc

  open_has : (e : EngineName) (n : ℕ) (got : Got) → Has (job.Open e n) got (noted_open live e n got) (open_goes catalog records (noted_open live e n got) e got)
  open_has e n (given.Engine answer.Done) = behind_open_has _ _ _ records (opened_at live e n) (opened_order e n) catalog _
  open_has e n (given.Engine (answer.Fault f)) = lose_has _ _ _ records live _ _
  open_has e n _ = starve_has _ _ _ records live

  selecting : (s : Selected) → is_some live.mem ≡ true → OpensAt (at.Asking live job.Select) (given.Reg (told.Selected s)) (at.Asking (selects live s) (job.Open Store s.b))
  selecting s some = by s.made
    where
      by_mem : (mem : Option ℕ) → is_some mem ≡ true → (p : Option Point) → OpensAt (at.Asking live job.Select) (given.Reg (told.Selected s)) (at.Asking (record live { mem = mem; selected = p }) (job.Open Store s.b))
      by_mem None is p = absurd cc
      by_mem (Some a) is p = (live, s, refl, refl, refl)

      by : (made : Bool) → OpensAt (at.Asking live job.Select) (given.Reg (told.Selected s)) (at.Asking (cond made (record live { selected = Some (record { a = number_or_none live.mem; b = s.b; commit = false }) }) live) (job.Open Store s.b))
      by true = by_mem live.mem some (Some (record { a = number_or_none live.mem; b = s.b; commit = false }))
      by false = by_mem live.mem some live.selected

  select_has : (got : Got) → Has job.Select got (noted_select live got) (select_goes records (noted_select live got) got)
  select_has (given.Reg (told.Selected s)) = asks_has _ _ _ records (selects live s) (job.Open Store s.b) _ (λ b. tt) (λ b. selecting s b.0)
  select_has (given.Reg (told.Recycled r)) = lose_has _ _ _ records live _ _
  select_has _ = starve_has _ _ _ records live

  read_has : (e : EngineName) (t : ℕ) (key : Option Value) (got : Got) → Has (job.Read e t key) got live (read_goes catalog records live e key got)
  read_has e t None (given.Engine (answer.Rows rows)) = rows_come_has _ _ _ records live (λ b. b) catalog e rows
  read_has e t None (given.Engine (answer.Fault f)) = fault_at_read_has _ _ _ records live (λ b. b) e f
  read_has e t None _ = starve_has _ _ _ records live
  read_has e t (Some key) (given.Engine (answer.Found row)) = rows_come_has _ _ _ records live (λ b. b) catalog e _
  read_has e t (Some key) (given.Engine (answer.Fault f)) = fault_at_read_has _ _ _ records live (λ b. b) e f
  read_has e t (Some key) _ = starve_has _ _ _ records live

  written_order : (e : EngineName) → Unselected live → Unselected (has_written live e)
  written_order Mem u = u
  written_order Store u = u

  put_has : (e : EngineName) (writes : List Write) (done : ℕ) (r : Reply) (got : Got) → Has (job.Put e writes done r) got (noted_put live e got) (put_goes records (noted_put live e got) e writes done r got)
  put_has e writes done r (given.Engine answer.Done) = put_next_has _ _ _ records (has_written live e) (written_order e) e writes (done + 1) r
  put_has e writes done r (given.Engine (answer.Fault f)) = lose_has _ _ _ records live _ _
  put_has e writes done r _ = starve_has _ _ _ records live

  -- where the answer leads, which is noted already; or memory was wanted for that
  pub count_moves : (got : Got) (moved : Moved) → Either (goes catalog records live job.Count got) (starve records live) moved → Has job.Count got live moved
  count_moves got moved is = either_has _ _ _ records _ _ _ moved is (count_has got) (starve_has _ _ _ records live)

  pub open_moves : (e : EngineName) (n : ℕ) (got : Got) (moved : Moved) → Either (goes catalog records (noted_open live e n got) (job.Open e n) got) (starve records (noted_open live e n got)) moved → Has (job.Open e n) got (noted_open live e n got) moved
  open_moves e n got moved is = either_has _ _ _ records _ _ _ moved is (open_has e n got) (starve_has _ _ _ records _)

  pub select_moves : (got : Got) (moved : Moved) → Either (goes catalog records (noted_select live got) job.Select got) (starve records (noted_select live got)) moved → Has job.Select got (noted_select live got) moved
  select_moves got moved is = either_has _ _ _ records _ _ _ moved is (select_has got) (starve_has _ _ _ records _)

  pub read_moves : (e : EngineName) (t : ℕ) (key : Option Value) (got : Got) (moved : Moved) → Either (goes catalog records live (job.Read e t key) got) (starve records live) moved → Has (job.Read e t key) got live moved
  read_moves e t key got moved is = either_has _ _ _ records _ _ _ moved is (read_has e t key got) (starve_has _ _ _ records live)

  pub put_moves : (e : EngineName) (writes : List Write) (done : ℕ) (r : Reply) (got : Got) (moved : Moved) → Either (goes catalog records (noted_put live e got) (job.Put e writes done r) got) (starve records (noted_put live e got)) moved → Has (job.Put e writes done r) got (noted_put live e got) moved
  put_moves e writes done r got moved is = either_has _ _ _ records _ _ _ moved is (put_has e writes done r got) (starve_has _ _ _ records _)

-- ---- what it adds to the facts

pub counter_adds : (e : EngineName) (got : Got) (f : Facts) → f ≡ facts_after (counter_wish e) got f
counter_adds Mem got f = refl
counter_adds Store got f = refl

pub open_adds : (live : Live) (e : EngineName) (n : ℕ) (got : Got) → live_facts (noted_open live e n got) ≡ facts_after (on e (call.Open live.label n)) got (live_facts live)
open_adds live Mem n (given.Engine answer.Done) = refl
open_adds live Store n (given.Engine answer.Done) = refl
open_adds live Mem n _ = refl
open_adds live Store n _ = refl

-- a selection that was made is the first of its points
pub select_adds : (live : Live) (got : Got) → live.selected ≡ None → live.passed ≡ false → live_facts (noted_select live got) ≡ facts_after (wish.Reg (reg.Select (number_or_none live.mem))) got (live_facts live)
select_adds live (given.Reg (told.Selected s)) none unpassed = by live.selected live.passed s.made none unpassed
  where
    by : (o : Option Point) (passed made : Bool) → o ≡ None → passed ≡ false
        → live_facts (cond made (record live { selected = Some (record { a = number_or_none live.mem; b = s.b; commit = false }); passed = passed }) (record live { selected = o; passed = passed }))
        ≡ cond made (with_point (number_or_none live.mem) s.b false (live_facts (record live { selected = o; passed = passed }))) (live_facts (record live { selected = o; passed = passed }))
    by None false true n u = refl
    by None false false n u = refl
    by (Some p) passed made n u = absurd cc
    by None true made n u = absurd cc
select_adds live _ none unpassed = refl

pub read_adds : (live : Live) (e : EngineName) (t : ℕ) (key : Option Value) (got : Got) (f : Facts) → f ≡ facts_after (on e (read_call live.label t key)) got f
read_adds live Mem t None got f = refl
read_adds live Mem t (Some key) got f = refl
read_adds live Store t None got f = refl
read_adds live Store t (Some key) got f = refl

put_notes : (live : Live) (e : EngineName) (got : Got) → live_facts (noted_put live e got) ≡ live_facts live
put_notes live Mem (given.Engine answer.Done) = refl
put_notes live Store (given.Engine answer.Done) = refl
put_notes live e _ = refl

put_still : (live : Live) (e : EngineName) (o : Option Write) (got : Got) (f : Facts) → f ≡ facts_after (put_wish live e o) got f
put_still live Mem None got f = refl
put_still live Store None got f = refl
put_still live Mem (Some w) got f = refl
put_still live Store (Some w) got f = refl

pub put_adds : (live : Live) (e : EngineName) (writes : List Write) (done : ℕ) (got : Got) → live_facts (noted_put live e got) ≡ facts_after (put_wish live e (slice_get writes done)) got (live_facts live)
put_adds live e writes done got = put_notes live e got ∙ put_still live e (slice_get writes done) got (live_facts live)

-- the end of an opening adds nothing
pub leave_adds : (live : Live) (e : EngineName) (got : Got) (f : Facts) → f ≡ facts_after (on e (call.DropTx live.label)) got f
leave_adds live Mem got f = refl
leave_adds live Store got f = refl
