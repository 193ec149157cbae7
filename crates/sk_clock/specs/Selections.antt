-- What a walk for two numbers finds, and what a selection answers.
use Rattle.std.specs.Prelude.{◌≡◌, ℕ, ◌+◌, ◌*◌, ◌<◌, ◌≤◌, true, false, List, [], ◌∷◌, ◌++◌, length, Option, Some, None, Result, Ok, Err, cond}
use Rattle.sk_model.specs.declared.point.Point.{Point}
use Rattle.sk_model.specs.declared.point.Recycled.{Recycled}
use Rattle.sk_weave.specs.declared.answer.Selected.{Selected}
use Rattle.sk_weave.specs.declared.event.Event.{Event}
use Rattle.sk_weave.specs.declared.event.Event.TheVariants.{Append}
use Rattle.sk_weave.specs.Points.{selection, first_past, point_at}
use Rattle.sk_weave.specs.Registry.{Regs, oldest_of, is_within, selected}
use Rattle.sk_clock.specs.declared.view.WordStep.TheVariants.{Load}
use Rattle.sk_clock.specs.declared.view.Entry.{Entry}
use Rattle.sk_clock.specs.declared.view.View.{View}
use Rattle.sk_clock.specs.declared.walks.Last.{Last}
use Rattle.sk_clock.specs.declared.selecting.Sought.{Sought}
use Rattle.sk_clock.specs.declared.selecting.Sought.TheVariants as sought
use Rattle.sk_clock.specs.Paths.{Begins}
use Rattle.sk_clock.specs.Steps.{entry, steps_by}
use Rattle.sk_clock.specs.Kept.{cells, Sees, Looks, now}
use Rattle.sk_clock.specs.Answers.{At}
use Rattle.sk_clock.specs.Walks.{nth, StandsAt}

-- loads, after which the point k has this word and is not past the two numbers
pub record Starts (v : View) (x y low k word : ℕ) (w : View) : Type 0 where
  pub looks : Looks v w
  pub stands : StandsAt w k word
  pub inside : is_within x y (point_at word) ≡ true
  pub since : (now v).low ≤ low
  pub seen : low ≤ (now w).low
  pub above : low * w.start.size ≤ k
  pub legal : Sees w

-- loads, after which the oldest live point is past the two numbers
pub record FindsGone (v : View) (x y : ℕ) (p : Point) (w : View) : Type 0 where
  pub looks : Looks v w
  pub oldest : p ≡ oldest_of (now w)
  pub past : is_within x y p ≡ false
  pub legal : Sees w
  pub all_seen : steps_by w.own.path w.seen ≡ w.own.steps

-- loads, after which p is live and not past the two numbers, and q behind it is past them
pub record FindsBetween (v : View) (x y : ℕ) (p q : Point) (w : View) : Type 0 where
  pub looks : Looks v w
  pub at : ℕ
  pub live : (now w).low * w.start.size ≤ at
  pub there : at + 1 < length (now w).points
  pub p_is : p ≡ nth (now w) at
  pub q_is : q ≡ nth (now w) (at + 1)
  pub inside : is_within x y p ≡ true
  pub past : is_within x y q ≡ false
  pub legal : Sees w
  pub all_seen : steps_by w.own.path w.seen ≡ w.own.steps

abbrev pub MatchSought : Sought → (Point → Type 0) → (Point → Point → Type 0) → (Last → Type 0) → Type 0
MatchSought (sought.Gone p) P Q R = P p
MatchSought (sought.Between p q) P Q R = Q p q
MatchSought (sought.Last l) P Q R = R l

-- the pass loaded this S number in this call, before the place
pub record LoadsStore (v : View) (store : ℕ) (place : List Entry) : Type 0 where
  pub before : List Entry
  pub since : Begins v.seen before
  pub then : Begins (before ++ entry v.own.path (Load 1 store) ∷ []) place

-- and after the last point at the place was made
pub record LoadsFresh (v : View) (store : ℕ) (place : List Entry) : Type 0 where
  pub loads : LoadsStore v store place
  pub made : (cells v loads.before).regs.points ≡ (cells v place).regs.points

-- the change of a selection
abbrev pub select_of : ℕ → Result Selected Recycled → Option Event
select_of a (Ok s) = cond s.made (Some (Append (selection a s.b))) None
select_of a (Err e) = None

-- The answer is the one of the place, for an S number. Where no point there is past the anchor, the pass loaded it in this call, after the last point there was made.
pub record SelectsAt (v : View) (a : ℕ) (result : Result Selected Recycled) (w : View) : Type 0 where
  pub store : ℕ
  pub at : At v (λ (r : Regs). result ≡ selected r a store) (select_of a result) w
  pub fresh : first_past a (cells v at.place).regs.points ≡ None → LoadsFresh v store at.place
