-- A step of a commit that went on is followed by a step, and not by the end of an opening.
use Rattle.std.specs.Prelude.{ℕ, Option, Some, None, Bool, true, false, if◌then◌else◌}
use Rattle.sk_model.specs.declared.engine.EngineName.{EngineName}
use Rattle.sk_model.specs.declared.engine.EngineName.TheVariants.{Mem, Store}
use Rattle.sk_model.specs.declared.step.StepName.{StepName}
use Rattle.sk_model.specs.declared.step.StepName.TheVariants.{CloseMem, CloseStore, DrawMem, DrawStore, Check, StampMem, StampStore}
use Rattle.sk_model.specs.declared.call.EngineReply.TheVariants as answer
use Rattle.sk_model.specs.RecordTalks.{number_or_none}
use Rattle.sk_weave.specs.declared.answer.DrawFault.TheVariants.{Early as TooEarly}
use Rattle.sk_commit.specs.declared.asking.RegistryReply.TheVariants as told
use Rattle.sk_commit.specs.declared.asking.Got.{Got}
use Rattle.sk_commit.specs.declared.asking.Got.TheVariants as given
use Rattle.sk_commit.specs.declared.committing.CommitEnd.{CommitEnd}
use Rattle.sk_commit.specs.declared.committing.CommitEnd.TheVariants.{Committed, CheckFailed, Spent, NoMemory}
use Rattle.sk_commit.specs.declared.committing.Committing.{Committing}
use Rattle.sk_commit.specs.declared.committing.Stage.{Stage}
use Rattle.sk_commit.specs.declared.committing.Stage.TheVariants.{Step, Leave}
use Rattle.sk_commit.specs.declared.committing.Stepped.TheVariants.{Went, Ended}
use Rattle.sk_commit.specs.declared.committing.Taken.{Taken}
use Rattle.sk_commit.specs.declared.committing.Taken.TheVariants as outcome
use Rattle.sk_commit.specs.Committing.{next_step, owes_mem, owes_store, leaving, leave_store, ended, goes_on, went, draw_of, close_of, drawn, draw, closed, close, check, step_taken, taken_at, taken}
use Rattle.sk_session.specs.Speaks.{IsAtStep}

-- where a step was taken, a step comes next
abbrev pub GoesToStep : Taken → Type 0
GoesToStep (outcome.Step (Went d step n)) = IsAtStep d.stage
GoesToStep _ = Unit {0}

chosen : {X : Type 0} (P : X → Type 0) (b : Bool) (x y : X) → P x → P y → P (if b then x else y)
chosen P true x y f g = f
chosen P false x y f g = g

store_left : (c : Committing) (refused : Option StepName) (end : CommitEnd) → GoesToStep (leave_store c refused end)
store_left c refused end = chosen GoesToStep (owes_store c.used end) (outcome.More (leaving c refused Store end)) (outcome.Step (Ended end)) tt tt

has_ended : (c : Committing) (refused : Option StepName) (end : CommitEnd) → GoesToStep (ended c refused end)
has_ended c refused end = chosen GoesToStep (owes_mem c.used end) (outcome.More (leaving c refused Mem end)) (leave_store c refused end) tt (store_left c refused end)

on_to : (c : Committing) (step : StepName) (n : Option ℕ) (next : Option StepName) → GoesToStep (goes_on c step n next)
on_to c step n (Some next) = tt
on_to c step n None = has_ended c None (Committed c.mem c.store)

went_on : (c : Committing) (step : StepName) (n : Option ℕ) → GoesToStep (went c step n)
went_on c step n = on_to c step n (next_step c.used step)

drawn_on : (c : Committing) (e : EngineName) (n : ℕ) → GoesToStep (drawn c e n)
drawn_on c Mem n = went_on (record c { mem = Some n }) DrawMem (Some n)
drawn_on c Store n = went_on (record c { store = Some n }) DrawStore (Some n)

drew : (c : Committing) (e : EngineName) (got : Got) → GoesToStep (draw c e got)
drew c e (given.Reg (told.Number n)) = drawn_on c e n
drew c e (given.Reg (told.NotDrawn (TooEarly floor counter))) = tt
drew c e _ = has_ended c (Some (draw_of e)) (Spent e c.mem)

closed_on : (c : Committing) (e : EngineName) (floor : ℕ) → GoesToStep (closed c e floor)
closed_on c Mem floor = went_on (record c { floor_mem = floor }) CloseMem None
closed_on c Store floor = went_on (record c { floor_store = floor }) CloseStore None

has_closed : (c : Committing) (e : EngineName) (got : Got) → GoesToStep (close c e got)
has_closed c e (given.Engine (answer.Number floor)) = closed_on c e floor
has_closed c e _ = has_ended c (Some (close_of e)) NoMemory

checked : (c : Committing) (got : Got) → GoesToStep (check c got)
checked c (given.Reg (told.Passed passed)) = has_ended c (Some Check) (CheckFailed passed.point (number_or_none c.mem) (number_or_none c.store))
checked c _ = went_on c Check None

step_on : (c : Committing) (step : StepName) (got : Got) → GoesToStep (step_taken c step got)
step_on c CloseMem got = has_closed c Mem got
step_on c CloseStore got = has_closed c Store got
step_on c DrawMem got = drew c Mem got
step_on c DrawStore got = drew c Store got
step_on c Check got = checked c got
step_on c StampMem got = went_on c StampMem None
step_on c StampStore got = went_on c StampStore None

stage_on : (c : Committing) (stage : Stage) (got : Got) → GoesToStep (taken_at c stage got)
stage_on c (Step step) got = step_on c step got
stage_on c (Leave refused Mem end) got = store_left c refused end
stage_on c (Leave refused Store end) got = tt

pub taken_on : (c : Committing) (got : Got) → GoesToStep (taken c got)
unfolding taken
taken_on c got = stage_on c c.stage got
