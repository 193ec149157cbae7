-- What every table of an engine obeys whose journal is legal.
use Rattle.std.specs.Prelude.{◌≡◌, ℕ, ◌<◌, ◌≤◌, List, [], ◌∷◌, Option, Some, None, Bool, true, T, is_some}
use Rattle.std.specs.List.{AllByRecursion}
use Rattle.std.specs.Ordering.{nat_cmp}
use Rattle.std.specs.FinMap.{find, is_sorted}
use Rattle.sk_model.specs.declared.label.Label.{Label}
use Rattle.sk_model.specs.Database.{hits}
use Rattle.sk_model.specs.Engine.{VersionState, Open, Closed, Stamped, Dropped, Version, Opening, Openings, EngineTable, opening_in, opening_of, snapshot_of}
use Rattle.sk_model.specs.Stamped.{v_number}

-- an open version's transaction has a standing opening, and a closed one's is closed with its floor
abbrev pub Stands : Option Opening → VersionState → Type 0
Stands None Open = ⊥
Stands (Some o) Open = o.floor ≡ None
Stands None (Closed f) = ⊥
Stands (Some o) (Closed f) = o.floor ≡ Some f
Stands o (Stamped n) = Unit {0}
Stands o Dropped = Unit {0}

-- the version stands as its transaction's opening does
abbrev pub Sound : Openings → Version → Type 0
Sound os v = Stands (opening_in v.by os) v.standing

abbrev pub AllSound : EngineTable → Type 0
AllSound e = AllByRecursion (Sound e.openings) e.versions

-- v may stand before a version that was written at the snapshot s
abbrev pub Precedes : VersionState → ℕ → Type 0
Precedes Open s = ⊥
Precedes (Closed f) s = ⊥
Precedes (Stamped n) s = n ≤ s
Precedes Dropped s = Unit {0}

-- a version that stands as w and was written at s may stand behind one that stands as v
abbrev pub Behind : VersionState → VersionState → ℕ → Type 0
Behind Dropped v s = Unit {0}
Behind Open v s = Precedes v s
Behind (Closed f) v s = Precedes v s
Behind (Stamped m) v s = Precedes v s

abbrev pub same_row : Version → Version → Bool
same_row v w = hits v.write.table v.write.key w.write

-- of the versions of one row, each may stand behind those before it
abbrev pub Ordered : List Version → Type 0
Ordered [] = Unit {0}
Ordered (v ∷ vs) = AllByRecursion (λ (w : Version). same_row v w ≡ true → Behind w.standing v.standing w.snapshot) vs × Ordered vs

-- a version's number and floor are past the snapshot at which it was written
abbrev pub TimedAt : ℕ → ℕ → VersionState → Type 0
TimedAt greatest s Open = s ≤ greatest
TimedAt greatest s (Closed f) = s ≤ f
TimedAt greatest s (Stamped n) = s < n
TimedAt greatest s Dropped = Unit {0}

-- the versions of each row stand in order, each as its transaction's opening does, and no snapshot is past the greatest
pub record Good (e : EngineTable) : Type 0 where
  pub sound : AllSound e
  pub ordered : Ordered e.versions
  pub timed : AllByRecursion (λ (v : Version). TimedAt e.greatest v.snapshot v.standing) e.versions
  pub opens : (l : Label) → snapshot_of e l ≤ e.greatest

-- a floor, where there is one, is not before the start
abbrev pub FloorFrom : ℕ → Option Opening → Type 0
FloorFrom s None = Unit {0}
FloorFrom s (Some o) = (f : ℕ) → o.floor ≡ Some f → s ≤ f

-- a version's number, where it has one, is among these
abbrev pub Known : List (ℕ × Label) → Version → Type 0
Known stamped v = (n : ℕ) → v_number v ≡ Some n → is_some (find nat_cmp n stamped) ≡ true

-- the stamped numbers rise from the start on, no floor is before it, and each version's number is among them
pub record Listed (s : ℕ) (e : EngineTable) : Type 0 where
  pub sorted : T (is_sorted nat_cmp e.stamped)
  pub past : AllByRecursion (λ (p : ℕ × Label). s < p.0) e.stamped
  pub floors : (l : Label) → FloorFrom s (opening_of e l)
  pub greatest : s ≤ e.greatest
  pub known : AllByRecursion (Known e.stamped) e.versions
