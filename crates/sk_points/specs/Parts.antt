-- The partitions of a ring, as lists.
use Rattle.std.specs.Prelude.{◌≡◌, ℕ, List, [], ◌∷◌, ◌++◌, Bool, cond, ◌==◌, ◌+◌, ◌≤◌, nat_lt, length, slice_index_or, slice_set}
use Rattle.std.specs.List.{flat_map, AllByRecursion}
use Rattle.sk_model.specs.declared.point.Point.{Point}

-- the points of a partition, and how many it has room for
pub record RingPart : Type 0 where
  pub points : List Point
  pub size : ℕ

abbrev pub no_part : RingPart
no_part = record { points = []; size = 0 }

-- the points of these partitions
abbrev pub points_in : List RingPart → List Point
points_in parts = flat_map (λ p. p.points) parts

abbrev pub IsFilled : ℕ → RingPart → Type 0
IsFilled size p = (p.size ≡ size) × (length p.points ≡ size)

abbrev pub IsSpare : ℕ → RingPart → Type 0
IsSpare size p = (p.size ≡ size) × (p.points ≡ [])

-- full partitions, then the newest, in which there is a point, and then empty ones
pub record Shape (parts : List RingPart) (newest size : ℕ) : Type 0 where
  pub full : List RingPart
  pub here : RingPart
  pub spare : List RingPart
  pub is : parts ≡ full ++ here ∷ spare
  pub at : length full ≡ newest
  pub filled : AllByRecursion (IsFilled size) full
  pub here_size : here.size ≡ size
  pub some : 1 ≤ length here.points
  pub fits : length here.points ≤ size
  pub empty : AllByRecursion (IsSpare size) spare

-- the oldest partition stands last, emptied
abbrev pub turned : List RingPart → List RingPart
turned [] = []
turned (p ∷ ps) = ps ++ record p { points = [] } ∷ []

-- the partitions, and which is filled, behind a full one
abbrev pub next_parts : List RingPart → ℕ → List RingPart
next_parts parts newest = cond (nat_lt (newest + 1) (length parts)) parts (turned parts)

abbrev pub next_newest : List RingPart → ℕ → ℕ
next_newest parts newest = cond (nat_lt (newest + 1) (length parts)) (newest + 1) newest

abbrev pub is_full_part : RingPart → Bool
is_full_part p = length p.points == p.size

-- the partitions, and which is filled, once there is room for a point
abbrev pub room_parts : List RingPart → ℕ → List RingPart
room_parts parts newest = cond (is_full_part (slice_index_or parts newest no_part)) (next_parts parts newest) parts

abbrev pub room_newest : List RingPart → ℕ → ℕ
room_newest parts newest = cond (is_full_part (slice_index_or parts newest no_part)) (next_newest parts newest) newest

abbrev pub with_point : RingPart → Point → RingPart
with_point p q = record p { points = p.points ++ q ∷ [] }

-- the point is put into this partition
abbrev pub pushed : List RingPart → ℕ → Point → List RingPart
pushed parts newest q = slice_set parts newest (with_point (slice_index_or parts newest no_part) q)
