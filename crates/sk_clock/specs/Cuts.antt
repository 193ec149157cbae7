-- What a cut answers.
use Rattle.std.specs.Prelude.{◌≡◌, ℕ, Option, Some, None, cond}
use Rattle.sk_weave.specs.declared.answer.CutFound.{CutFound}
use Rattle.sk_weave.specs.declared.event.Event.{Event}
use Rattle.sk_weave.specs.declared.event.Event.TheVariants.{Append}
use Rattle.sk_weave.specs.Points.{selection}
use Rattle.sk_weave.specs.Registry.{Regs, cut_found}
use Rattle.sk_clock.specs.declared.view.View.{View}
use Rattle.sk_clock.specs.Answers.{At}
use Rattle.sk_clock.specs.Selections.{LoadsStore}

-- the change of a cut
abbrev pub cut_change : ℕ → ℕ → CutFound → Option Event
cut_change x y c = cond c.made (Some (Append (selection x y))) None

-- the answer is the one of the place, for an S number that the pass loaded in this call
pub record CutsAt (v : View) (x y : ℕ) (result : CutFound) (w : View) : Type 0 where
  pub store : ℕ
  pub at : At v (λ (r : Regs). result ≡ cut_found r x y store) (cut_change x y result) w
  pub loads : LoadsStore v store at.place
