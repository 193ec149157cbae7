-- What the answer to a call of a commit leaves of the facts of its transaction.
use Rattle.std.specs.Prelude.{◌≡◌, ℕ, List, Option, Some, None, Bool, true, false, if◌then◌else◌}
use Rattle.std.proofs.Common.{refl, ap, ◌∙◌}
use Rattle.std.specs.List.{list_any}
use Rattle.sk_rows.specs.declared.table.Table.{Table}
use Rattle.sk_model.specs.declared.label.Label.{Label}
use Rattle.sk_model.specs.declared.point.Point.{Point}
use Rattle.sk_model.specs.declared.engine.EngineName.{EngineName}
use Rattle.sk_model.specs.declared.engine.EngineName.TheVariants.{Mem, Store}
use Rattle.sk_model.specs.declared.record.Record.{Record}
use Rattle.sk_model.specs.declared.reply.Reply.{Reply}
use Rattle.sk_model.specs.declared.step.StepName.{StepName}
use Rattle.sk_model.specs.declared.step.StepName.TheVariants.{CloseMem, CloseStore, DrawMem, DrawStore, Check, StampMem, StampStore}
use Rattle.sk_model.specs.declared.call.EngineReply.TheVariants as answer
use Rattle.sk_model.specs.Talks.{Talk}
use Rattle.sk_model.specs.RecordTalks.{number_or_none, commit_steps, is_check}
use Rattle.sk_weave.specs.declared.answer.DrawFault.TheVariants.{Early as TooEarly}
use Rattle.sk_commit.specs.declared.asking.RegistryReply.TheVariants as told
use Rattle.sk_commit.specs.declared.asking.Wish.TheVariants as wish
use Rattle.sk_commit.specs.declared.asking.Got.{Got}
use Rattle.sk_commit.specs.declared.asking.Got.TheVariants as given
use Rattle.sk_commit.specs.declared.committing.CommitEnd.{CommitEnd}
use Rattle.sk_commit.specs.declared.committing.CommitEnd.TheVariants.{Committed, CheckFailed, Spent, NoMemory}
use Rattle.sk_commit.specs.declared.committing.Committing.{Committing}
use Rattle.sk_commit.specs.declared.committing.Stage.{Stage}
use Rattle.sk_commit.specs.declared.committing.Stage.TheVariants.{Step, Leave}
use Rattle.sk_commit.specs.declared.committing.Stepped.TheVariants.{Went, Early, Ended}
use Rattle.sk_commit.specs.declared.committing.Taken.{Taken}
use Rattle.sk_commit.specs.declared.committing.Taken.TheVariants as outcome
use Rattle.sk_commit.specs.Committing.{next_step, owes_mem, owes_store, leaving, leave_store, leave_call, ended, goes_on, went, close_of, closed, close, taken_at, taken, wish_at, wish_in, wish_of}
use Rattle.sk_commit.specs.Fits.{WishFits}
use Rattle.sk_commit.specs.Told.{steps_before}
use Rattle.sk_session.specs.declared.live.Live.{Live}
use Rattle.sk_session.specs.declared.live.Job.TheVariants as job
use Rattle.sk_session.specs.declared.live.At.{At}
use Rattle.sk_session.specs.Moving.{record_now, stepped, went_on, commit_goes}
use Rattle.sk_session.specs.Speaks.{Commits}
use Rattle.sk_session.specs.Facts.{Facts, facts_after, with_point}
use Rattle.sk_session.proofs.SoFar.{live_facts, HasFacts, asks_has, finish_has}

-- the transaction behind what an answer has come to
abbrev pub live_after : Live → Taken → Live
live_after live (outcome.Step (Went d step n)) = stepped live step n
live_after live _ = live

-- ---- where the answer leads

module _ (old : At) (got : Got) (Given : Type 0) (records : List Record) where
  went_on_has : (live : Live) (d : Committing) (step : StepName) (n : Option ℕ) (whole : Bool) (own : Option Reply) → HasFacts old got Given records (live_facts live) (went_on records live d step n whole own)
  went_on_has live d step n true own = asks_has old got Given records live (job.Commit d true own) _ (λ g. tt) (λ g. tt)
  went_on_has live d step n false own = record { last = record_now live; so_far_are = refl; facts_are = refl; orderly = λ g. tt; opens = λ g. tt }

  pub commit_has : (live : Live) (t : Taken) (whole : Bool) (own : Option Reply) → HasFacts old got Given records (live_facts (live_after live t)) (commit_goes records live t whole own)
  commit_has live (outcome.More c) whole own = asks_has old got Given records live (job.Commit c whole own) _ (λ g. tt) (λ g. tt)
  commit_has live (outcome.Step (Went d step n)) whole own = went_on_has (stepped live step n) d step n whole own
  commit_has live (outcome.Step (Early c floor counter)) whole own = asks_has old got Given records live (job.Commit c whole own) _ (λ g. tt) (λ g. tt)
  commit_has live (outcome.Step (Ended end)) whole own = finish_has old got Given records live _ _ false

-- ---- what it adds to the facts

chosen : {X : Type 0} (P : X → Type 0) (b : Bool) (x y : X) → P x → P y → P (if b then x else y)
chosen P true x y f g = f
chosen P false x y f g = g

module _ (live : Live) where
  abbrev Still : Taken → Type 0
  Still t = live_after live t ≡ live

  store_still : (c : Committing) (refused : Option StepName) (end : CommitEnd) → Still (leave_store c refused end)
  store_still c refused end = chosen Still (owes_store c.used end) (outcome.More (leaving c refused Store end)) (outcome.Step (Ended end)) refl refl

  ended_still : (c : Committing) (refused : Option StepName) (end : CommitEnd) → Still (ended c refused end)
  ended_still c refused end = chosen Still (owes_mem c.used end) (outcome.More (leaving c refused Mem end)) (leave_store c refused end) refl (store_still c refused end)

  -- a step that draws nothing and checks nothing
  on_still : (c : Committing) (step : StepName) (next : Option StepName) → stepped live step None ≡ live → Still (goes_on c step None next)
  on_still c step (Some s) is = is
  on_still c step None is = ended_still c None (Committed c.mem c.store)

  went_still : (c : Committing) (step : StepName) → stepped live step None ≡ live → Still (went c step None)
  went_still c step is = on_still c step (next_step c.used step) is

  closed_still : (c : Committing) (e : EngineName) (floor : ℕ) → Still (closed c e floor)
  closed_still c Mem floor = went_still (record c { floor_mem = floor }) CloseMem refl
  closed_still c Store floor = went_still (record c { floor_store = floor }) CloseStore refl

  close_still : (c : Committing) (e : EngineName) (got : Got) → Still (close c e got)
  close_still c e (given.Engine (answer.Number floor)) = closed_still c e floor
  close_still c e _ = ended_still c (Some (close_of e)) NoMemory

-- ---- draws and the check

draw_mem_adds : (live : Live) (n : Option ℕ) → live.passed ≡ false → live_facts (record live { drew_mem = n }) ≡ record (live_facts live) { drew_mem = n }
draw_mem_adds live n unpassed = by live.passed unpassed
  where
    by : (passed : Bool) → passed ≡ false → live_facts (record live { drew_mem = n; passed = passed }) ≡ record (live_facts (record live { passed = passed })) { drew_mem = n }
    by false u = refl
    by true u = absurd cc

draw_store_adds : (live : Live) (n : Option ℕ) → live.passed ≡ false → live_facts (record live { drew_store = n }) ≡ record (live_facts live) { drew_store = n }
draw_store_adds live n unpassed = by live.passed unpassed
  where
    by : (passed : Bool) → passed ≡ false → live_facts (record live { drew_store = n; passed = passed }) ≡ record (live_facts (record live { passed = passed })) { drew_store = n }
    by false u = refl
    by true u = absurd cc

-- the check makes the commit point of the numbers that were drawn
check_adds : (live : Live) (mem store : Option ℕ) → live.passed ≡ false → live.drew_mem ≡ mem → live.drew_store ≡ store → live_facts (record live { passed = true }) ≡ with_point (number_or_none mem) (number_or_none store) true (live_facts live)
check_adds live mem store unpassed m s =
    by live.selected live.passed unpassed
    ∙ ap (λ x. with_point (number_or_none x) (number_or_none live.drew_store) true (live_facts live)) m
    ∙ ap (λ x. with_point (number_or_none mem) (number_or_none x) true (live_facts live)) s
  where
    by : (o : Option Point) (passed : Bool) → passed ≡ false
        → live_facts (record live { selected = o; passed = true }) ≡ with_point (number_or_none live.drew_mem) (number_or_none live.drew_store) true (live_facts (record live { selected = o; passed = passed }))
    by None false u = refl
    by (Some p) false u = refl
    by o true u = absurd cc

-- no check comes before these steps
pub unchecked_at_mem : (wm ws : Bool) → list_any is_check (steps_before DrawMem (commit_steps wm ws)) ≡ false
unchecked_at_mem true true = refl
unchecked_at_mem true false = refl
unchecked_at_mem false true = refl
unchecked_at_mem false false = refl

unchecked_at_store : (wm ws : Bool) → list_any is_check (steps_before DrawStore (commit_steps wm ws)) ≡ false
unchecked_at_store true true = refl
unchecked_at_store true false = refl
unchecked_at_store false true = refl
unchecked_at_store false false = refl

unchecked : (wm ws : Bool) → list_any is_check (steps_before Check (commit_steps wm ws)) ≡ false
unchecked true true = refl
unchecked true false = refl
unchecked false true = refl
unchecked false false = refl

left_mem_adds : (tx : Label) (n : Option ℕ) (got : Got) (f : Facts) → f ≡ facts_after (wish.Mem (leave_call tx n)) got f
left_mem_adds tx None got f = refl
left_mem_adds tx (Some n) got f = refl

left_store_adds : (tx : Label) (n : Option ℕ) (got : Got) (f : Facts) → f ≡ facts_after (wish.Store (leave_call tx n)) got f
left_store_adds tx None got f = refl
left_store_adds tx (Some n) got f = refl

module _ (catalog : List Table) (live : Live) (c : Committing) (own : Option Reply) (talk : Talk) where
  abbrev IsIn : Stage → Type 0
  IsIn stage = Commits catalog live (record c { stage = stage }) own talk

  abbrev Adds : Stage → Got → Type 0
  Adds stage got = live_facts (live_after live (taken_at c stage got)) ≡ facts_after (wish_in c stage) got (live_facts live)

  draws_mem : (got : Got) → IsIn (Step DrawMem) → Adds (Step DrawMem) got
  draws_mem (given.Reg (told.Number n)) w = draw_mem_adds live (Some n) (w.passed ∙ unchecked_at_mem c.used.wrote_mem c.used.wrote_store)
  draws_mem (given.Reg (told.NotDrawn (TooEarly floor counter))) w = refl
  draws_mem _ w = ap live_facts (ended_still live c (Some DrawMem) (Spent Mem c.mem))

  draws_store : (got : Got) → IsIn (Step DrawStore) → Adds (Step DrawStore) got
  draws_store (given.Reg (told.Number n)) w = draw_store_adds live (Some n) (w.passed ∙ unchecked_at_store c.used.wrote_mem c.used.wrote_store)
  draws_store (given.Reg (told.NotDrawn (TooEarly floor counter))) w = refl
  draws_store _ w = ap live_facts (ended_still live c (Some DrawStore) (Spent Store c.mem))

  checks : (got : Got) → IsIn (Step Check) → WishFits (wish_at c Check) got → Adds (Step Check) got
  checks (given.Reg told.Done) w fits = check_adds live c.mem c.store (w.passed ∙ unchecked c.used.wrote_mem c.used.wrote_store) w.drew_mem w.drew_store
  checks (given.Reg (told.Passed p)) w fits = ap live_facts (ended_still live c (Some Check) (CheckFailed p.point (number_or_none c.mem) (number_or_none c.store)))
  checks _ w fits = absurd fits

  stage_adds : (stage : Stage) (got : Got) → IsIn stage → WishFits (wish_in c stage) got → Adds stage got
  stage_adds (Step CloseMem) got w fits = ap live_facts (close_still live c Mem got)
  stage_adds (Step CloseStore) got w fits = ap live_facts (close_still live c Store got)
  stage_adds (Step DrawMem) got w fits = draws_mem got w
  stage_adds (Step DrawStore) got w fits = draws_store got w
  stage_adds (Step Check) got w fits = checks got w fits
  stage_adds (Step StampMem) got w fits = ap live_facts (went_still live c StampMem refl)
  stage_adds (Step StampStore) got w fits = ap live_facts (went_still live c StampStore refl)
  stage_adds (Leave refused Mem end) got w fits = ap live_facts (store_still live c refused end) ∙ left_mem_adds c.label c.mem got (live_facts live)
  stage_adds (Leave refused Store end) got w fits = left_store_adds c.label c.store got (live_facts live)

  -- an answer to a call of a commit adds what the step has come to
  pub commit_adds : (got : Got) → Commits catalog live c own talk → WishFits (wish_of c) got → live_facts (live_after live (taken c got)) ≡ facts_after (wish_of c) got (live_facts live)
  unfolding taken wish_of
  commit_adds got w fits = stage_adds c.stage got w fits
