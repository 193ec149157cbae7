-- What a clock is at its close.
use Rattle.std.specs.Prelude.{◌≡◌, ℕ, ◌<◌, List, [], ◌∷◌}
use mathlib.Core.Option.{some}
use lib.ListN.{get_elem?}
use Rattle.sk_model.specs.declared.point.Point.{Point}
use Rattle.sk_weave.specs.Registry.{live_of}
use Rattle.sk_clock.specs.declared.view.Entry.{Entry}
use Rattle.sk_clock.specs.declared.view.Start.{Start}
use Rattle.sk_clock.specs.declared.view.Own.{Own}
use Rattle.sk_clock.specs.Held.{Held}
use Rattle.sk_clock.specs.Paths.{Path, Each}
use Rattle.sk_clock.specs.Steps.{steps_by}
use Rattle.sk_clock.specs.History.{first_cells, cells_after, IsHistory}

abbrev pub own_of : Held → Own
own_of p = p.view.own

abbrev pub HasPath : Path → List Own → Type 0
HasPath p os = (i : ℕ) × (o : Own) × (get_elem? os i ≡ some o) × (o.path ≡ p)

-- just one of them has this path
abbrev pub IsOfOne : Path → List Own → Type 0
IsOfOne p os = (i : ℕ) × (o : Own) × (get_elem? os i ≡ some o) × (o.path ≡ p) × ((j : ℕ) (u : Own) → get_elem? os j ≡ some u → u.path ≡ p → j ≡ i)

-- The first pass is among them, and each that one of them split off. None is there twice.
pub record IsEvery (os : List Own) : Type 0 where
  pub first : HasPath [] os
  pub others : (i : ℕ) (o : Own) → get_elem? os i ≡ some o → (k : ℕ) → k < o.splits → HasPath (k ∷ o.path) os
  pub once : (i j : ℕ) (o u : Own) → get_elem? os i ≡ some o → get_elem? os j ≡ some u → o.path ≡ u.path → i ≡ j

-- One history leads from the start to these live points. Each of its steps is of just one of these passes, and each of them has just its own there, in their order:
-- the numbers that it drew and the points that it made are among them.
pub record Closes (start : Start) (os : List Own) (points : List Point) : Type 0 where
  pub log : List Entry
  pub legal : IsHistory start (first_cells start) log
  pub points_are : points ≡ live_of (cells_after start (first_cells start) log).regs
  pub each : (i : ℕ) (o : Own) → get_elem? os i ≡ some o → steps_by o.path log ≡ o.steps
  pub by_one : Each (λ (e : Entry). IsOfOne e.by os) log
