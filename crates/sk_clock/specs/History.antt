-- A history of steps, and what the words are after it.
use Rattle.std.specs.Prelude.{◌≡◌, ℕ, ◌*◌, ◌%◌, ◌==◌, cond, List, [], ◌∷◌, ◌++◌, length, replicate, slice_index, slice_set}
use Rattle.sk_weave.specs.declared.event.Event.{Event}
use Rattle.sk_weave.specs.declared.event.Event.TheVariants.{DrawMem, DrawStore, Append, Raise}
use Rattle.sk_weave.specs.Points.{word_of, point_at}
use Rattle.sk_weave.specs.Registry.{Regs, regs_at, after, IsNext}
use Rattle.sk_clock.specs.declared.view.WordStep.{WordStep}
use Rattle.sk_clock.specs.declared.view.WordStep.TheVariants.{Load, Change}
use Rattle.sk_clock.specs.declared.view.Entry.{Entry}
use Rattle.sk_clock.specs.declared.view.Start.{Start}
use Rattle.sk_clock.specs.Paths.{Path}
use Rattle.sk_clock.specs.Steps.{steps_by, Holds}

-- what the words stand for: the registry, the ring's words as the appends wrote them, and the steps so far
pub record Cells : Type 0 where
  pub regs : Regs
  pub row : List ℕ
  pub past : List Entry

-- how many places the ring has
abbrev pub capacity : Start → ℕ
capacity s = s.partitions * s.size

abbrev pub first_cells : Start → Cells
first_cells s = record { regs = regs_at s.partitions s.size s.point; row = slice_set (replicate (capacity s) 0) 0 (word_of s.point); past = [] }

-- word 0 is the M counter, word 1 the S counter, word 2 the oldest live partition, and then comes the ring
abbrev pub words_of : Cells → List ℕ
words_of c = c.regs.mem ∷ c.regs.store ∷ c.regs.low ∷ c.row

-- a point goes to the place of its number
abbrev pub row_after : Start → Cells → Event → List ℕ
row_after s c (Append p) = slice_set c.row (length c.regs.points % capacity s) (word_of p)
row_after s c (DrawMem n) = c.row
row_after s c (DrawStore n) = c.row
row_after s c (Raise n) = c.row

abbrev pub changed : Start → Cells → WordStep → List Entry → Cells
changed s c (Load w n) past = record { regs = c.regs; row = c.row; past = past }
changed s c (Change e) past = record { regs = after c.regs e; row = row_after s c e; past = past }

abbrev pub after_entry : Start → Cells → Entry → Cells
after_entry s c e = changed s c e.step (c.past ++ e ∷ [])

-- who appends a point holds its numbers
abbrev pub IsHeld : List WordStep → Event → Type 0
IsHeld own (Append p) = Holds p own
IsHeld own (DrawMem n) = Unit {0}
IsHeld own (DrawStore n) = Unit {0}
IsHeld own (Raise n) = Unit {0}

-- a load tells what it found, and a change is a right step of the registry
abbrev pub IsRight : Cells → Path → WordStep → Type 0
IsRight c by (Load w n) = n ≡ slice_index (words_of c) w
IsRight c by (Change e) = IsNext c.regs e × IsHeld (steps_by by c.past) e

abbrev pub cells_after : Start → Cells → List Entry → Cells
cells_after s c [] = c
cells_after s c (e ∷ es) = cells_after s (after_entry s c e) es

-- each of these steps is right where it stands
abbrev pub IsHistory : Start → Cells → List Entry → Type 0
IsHistory s c [] = Unit {0}
IsHistory s c (e ∷ es) = IsRight c e.by e.step × IsHistory s (after_entry s c e) es

-- what the change of a word to n means
abbrev pub change_of : ℕ → ℕ → Event
change_of w n = cond (w == 0) (DrawMem n) (cond (w == 1) (DrawStore n) (cond (w == 2) (Raise n) (Append (point_at n))))
