-- What a transaction saw of both counters when it began, and the points that come later.
use Rattle.std.specs.Prelude.{◌≡◌, ℕ, Ok, ◌<◌, ◌≤◌, ◌⊎◌, List}
use Rattle.std.specs.List.{AllByRecursion}
use Rattle.sk_model.specs.declared.point.Point.{Point}
use Rattle.sk_weave.specs.declared.answer.Selected.{Selected}
use Rattle.sk_weave.specs.Points.{before_b}
use Rattle.sk_weave.specs.Registry.{Grows, Regs, IsSound, oldest_of, selected, after_selection, after_draw_mem, after_draw_store, after_check, after_cut}

-- both counters at some moment
pub record Counters : Type 0 where
  pub mem : ℕ
  pub store : ℕ

abbrev pub counters_of : Regs → Counters
counters_of r = record { mem = r.mem; store = r.store }

-- a point past what was seen of the memory engine goes on from all that was seen of the storage engine
abbrev pub Ahead : Counters → Point → Type 0
Ahead seen q = seen.mem < q.a → seen.store ≤ before_b q

abbrev pub AreAhead : Counters → List Point → Type 0
AreAhead seen points = AllByRecursion (Ahead seen) points

-- at the moment itself no point is past what is seen
abbrev pub AheadAtFirst : Type 0
AheadAtFirst = (r : Regs) → IsSound r → AreAhead (counters_of r) r.points

-- Each call keeps it: a selection and a cut where the storage counter that they found is at least what was seen,
-- unless the point is not past what was seen of the memory engine, and a check where its numbers are past both or the first is not.
pub record KeepsAhead (seen : Counters) (r : Regs) : Type 0 where
  pub draws_mem : (floor : ℕ) → AreAhead seen (after_draw_mem r floor).points
  pub draws_store : (floor : ℕ) → AreAhead seen (after_draw_store r floor).points
  pub selects : (a now : ℕ) → (seen.mem < a → seen.store ≤ now) → AreAhead seen (after_selection r a now).points
  pub checks : (ca cb : ℕ) → (seen.mem < ca → seen.store < cb) → AreAhead seen (after_check r ca cb).points
  pub cuts : (x y now : ℕ) → (seen.mem < x → seen.store ≤ now) → AreAhead seen (after_cut r x y now).points

abbrev pub AheadStays : Type 0
AheadStays = (seen : Counters) (r : Regs) → AreAhead seen r.points → KeepsAhead seen r

-- Whichever comes first, the moment or the look at the storage counter: where a number drawn before the look is past what was seen
-- of the memory engine, the look found at least what was seen of the storage engine.
abbrev pub LookIsPast : Type 0
LookIsPast = (r look : Regs) (a : ℕ) → a ≤ look.mem → Grows r look ⊎ Grows look r → r.mem < a → r.store ≤ look.store

-- so what is selected for an anchor that is not before the moment is not before what was seen of the storage engine
abbrev pub SelectionIsFresh : Type 0
SelectionIsFresh = (seen : Counters) (r : Regs) (a now : ℕ) (s : Selected) → AreAhead seen r.points → seen.mem ≤ a → seen.store ≤ now
    → selected r a now ≡ Ok s → seen.store ≤ s.b

-- what is selected is at least the oldest live point's number, so a purge up to that is never past it
abbrev pub SelectionIsLive : Type 0
SelectionIsLive = (r : Regs) (a now : ℕ) (s : Selected) → IsSound r → selected r a now ≡ Ok s → (oldest_of r).b ≤ s.b
