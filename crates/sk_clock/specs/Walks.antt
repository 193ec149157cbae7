-- What a walk over the points finds.
use Rattle.std.specs.Prelude.{◌≡◌, ℕ, ◌+◌, ◌*◌, ◌%◌, ◌<◌, ◌≤◌, ◌⊎◌, ◌++◌, length, slice_index, slice_index_or}
use Rattle.sk_model.specs.declared.point.Point.{Point}
use Rattle.sk_weave.specs.Points.{word_of}
use Rattle.sk_weave.specs.Registry.{Regs, no_point, last_of}
use Rattle.sk_weave.specs.declared.event.Event.TheVariants.{Append}
use Rattle.sk_clock.specs.declared.view.View.{View}
use Rattle.sk_clock.specs.declared.view.WordStep.TheVariants.{Change}
use Rattle.sk_clock.specs.History.{capacity}
use Rattle.sk_clock.specs.Steps.{steps_by}
use Rattle.sk_clock.specs.Kept.{cells, Sees, Looks, Extends, now, row_now}

-- the point of this number
abbrev pub nth : Regs → ℕ → Point
nth r k = slice_index_or r.points k no_point

-- the point k has been made, and this is its word
pub record StandsAt (v : View) (k word : ℕ) : Type 0 where
  pub there : k < length (now v).points
  pub word_is : word ≡ word_of (nth (now v) k)

-- loads that found the oldest live point
pub record FindsOldest (v : View) (low word : ℕ) (w : View) : Type 0 where
  pub looks : Looks v w
  pub stands : StandsAt w (low * w.start.size) word
  pub since : (now v).low ≤ low
  pub seen : low ≤ (now w).low
  pub low_is : (now w).low ≡ low
  pub legal : Sees w
  pub all_seen : steps_by w.own.path w.seen ≡ w.own.steps

-- loads, at a place of which k was the last point, and `next` the word at the next place
pub record FindsLast (v : View) (low k word next : ℕ) (w : View) : Type 0 where
  pub place : View
  pub before : Looks v place
  pub later : Looks place w
  pub own_there : steps_by place.own.path place.seen ≡ place.own.steps
  pub last : length (now place).points ≡ k + 1
  pub word_is : word ≡ word_of (nth (now place) k)
  pub next_is : next ≡ slice_index (row_now place) ((k + 1) % capacity place.start)
  pub seen : low ≤ (now place).low
  pub since : (now v).low ≤ low
  pub legal : Sees w
  pub all_seen : steps_by w.own.path w.seen ≡ w.own.steps

-- the point was appended, where the last one was this, of the number k
pub record Appends (u : View) (k : ℕ) (p last : Point) (w : View) : Type 0 where
  pub extends : Extends u (Change (Append p)) w
  pub last_is : last_of (cells u (u.seen ++ extends.between)).regs.points ≡ last
  pub count_is : length (cells u (u.seen ++ extends.between)).regs.points ≡ k + 1

-- the pass has only looked, and has seen one more point than k or a later oldest partition than low
pub record LooksPast (u : View) (low k : ℕ) (w : View) : Type 0 where
  pub looks : Looks u w
  pub legal : Sees w
  pub all_seen : steps_by w.own.path w.seen ≡ w.own.steps
  pub past : (k + 1 < length (now w).points) ⊎ (low < (now w).low)

-- this is what some loads found, the last of which led to w
abbrev pub HasFound : ℕ → ℕ → ℕ → ℕ → View → Type 0
HasFound low k word next w = (v : View) × FindsLast v low k word next w
