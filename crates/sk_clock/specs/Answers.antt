-- What a call of a clock answers: what the registry's rule says of one place of the history.
use Rattle.std.specs.Prelude.{◌≡◌, ℕ, List, [], ◌∷◌, ◌++◌, Option, Some, None, Result, Ok, Err}
use Rattle.sk_model.specs.declared.point.Point.{Point}
use Rattle.sk_weave.specs.declared.answer.DrawFault.{DrawFault}
use Rattle.sk_weave.specs.declared.event.Event.{Event}
use Rattle.sk_weave.specs.declared.event.Event.TheVariants.{Append}
use Rattle.sk_weave.specs.Registry.{Regs}
use Rattle.sk_clock.specs.declared.view.WordStep.{WordStep}
use Rattle.sk_clock.specs.declared.view.WordStep.TheVariants.{Change}
use Rattle.sk_clock.specs.declared.view.Entry.{Entry}
use Rattle.sk_clock.specs.declared.view.View.{View}
use Rattle.sk_clock.specs.Paths.{Each, Begins}
use Rattle.sk_clock.specs.Steps.{entry, steps_by}
use Rattle.sk_clock.specs.Kept.{own_at, cells, IsLook}

abbrev pub changes : Option Event → List WordStep
changes None = []
changes (Some e) = Change e ∷ []

-- the history goes on from the place, or ends there with this change
abbrev pub GoesOn : Option Event → List Entry → View → Type 0
GoesOn None place w = Begins place w.seen
GoesOn (Some e) place w = w.seen ≡ place ++ entry w.own.path (Change e) ∷ []

-- The answer is right at one place of the history that the pass has then seen, which begins with what it had seen before.
-- Its own steps are those that it had, and those of this call: they only look, but for the change, if there is one, which is made at the place. They stand in the history each once, in their order.
pub record At (v : View) (Answer : Regs → Type 0) (change : Option Event) (w : View) : Type 0 where
  pub place : List Entry
  pub since : Begins v.seen place
  pub answer : Answer (cells v place).regs
  pub goes_on : GoesOn change place w
  pub looks : List WordStep
  pub are_looks : Each IsLook looks
  pub own : w.own ≡ own_at v.own.path v.own.splits (v.own.steps ++ (looks ++ changes change))
  pub all_seen : steps_by w.own.path w.seen ≡ w.own.steps
  pub same : (w.start ≡ v.start) × (w.live ≡ v.live) × (w.taken ≡ v.taken)

-- the change of a draw
abbrev pub draw_of : (ℕ → Event) → Result ℕ DrawFault → Option Event
draw_of draw (Ok n) = Some (draw n)
draw_of draw (Err e) = None

-- the change of a call that appends this point where it succeeds
abbrev pub append_if : {T E : Type 0} → Point → Result T E → Option Event
append_if p (Ok x) = Some (Append p)
append_if p (Err e) = None
