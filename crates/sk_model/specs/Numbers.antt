-- Numbers that may be there, and lists in which they rise.
use Rattle.std.specs.Prelude.{◌≡◌, ℕ, ◌<◌, List, [], ◌∷◌, Option, Some, None, Bool, false, ◌&&◌, nat_lt, nat_le}

-- the greatest number of an engine
abbrev pub greatest_number : ℕ
greatest_number = 2147483647

-- a number that passes the test is there
abbrev pub there : (ℕ → Bool) → Option ℕ → Bool
there test None = false
there test (Some n) = test n

-- past low and up to high
abbrev pub within : ℕ → ℕ → ℕ → Bool
within low high n = nat_lt low n && nat_le n high

-- each element has a number, and these rise strictly from low on
abbrev pub Rises : {X : Type 0} → (X → Option ℕ) → ℕ → List X → Type 0
Rises f low [] = Unit {0}
Rises f low (x ∷ xs) = (n : ℕ) × (f x ≡ Some n) × (low < n) × Rises f n xs
