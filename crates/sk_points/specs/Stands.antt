-- The state that the registry on one thread stands for.
use Rattle.std.specs.Prelude.{◌≡◌, ℕ, Bool, ◌≤◌, length}
use Rattle.sk_model.specs.declared.point.Point.{Point}
use Rattle.sk_weave.specs.declared.answer.Selected.{Selected}
use Rattle.sk_weave.specs.Points.{pick}
use Rattle.sk_weave.specs.Laws.{CanComeLast}
use Rattle.sk_weave.specs.Registry.{Regs, IsSound, live_of, oldest_of, appended, makes_cut, after_cut}
use Rattle.sk_points.specs.declared.points.Points.{Points}
use Rattle.sk_points.specs.Parts.{Shape, points_in}

-- its counters are those of the state, and its partitions hold the live points
pub record StandsFor (p : Points) (r : Regs) : Type 0 where
  pub mem : p.mem ≡ r.mem
  pub store : p.store ≡ r.store
  pub sound : IsSound r
  pub size : p.size ≡ r.size
  pub partitions : length p.parts.items ≡ r.partitions
  pub shape : Shape p.parts.items p.newest p.size
  pub live : points_in p.parts.items ≡ live_of r

-- an append is that of each state that it stood for, where the point can come last
abbrev pub Appends : Points → Points → Point → Type 0
Appends old new p = (r : Regs) → StandsFor old r → CanComeLast r.points p → p.a ≤ r.mem → p.b ≤ r.store → StandsFor new (appended r p)

-- an append of a cut's point, where it makes one
abbrev pub AppendsCut : Points → Points → ℕ → ℕ → Bool → Type 0
AppendsCut old new x y made = (r : Regs) → StandsFor old r → (made ≡ makes_cut r x y r.store) × StandsFor new (after_cut r x y r.store)

-- it stands for some state
abbrev pub Stands : Points → Type 0
Stands p = (r : Regs) × StandsFor p r

-- the rule of selection over the points of each state that it stands for, with the storage counter as it is, where the oldest live point is not past the anchor
abbrev pub Picks : Points → ℕ → Selected → Type 0
Picks p a result = (r : Regs) → StandsFor p r → (oldest_of r).a ≤ a → result ≡ pick r.points a r.store
