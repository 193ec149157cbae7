-- The names in the two sides of an operator.
use Rattle.std.proofs.Common.{◌≡◌, Bool, true, false, ◌&&◌, refl}

-- where the right side is known, the left one decides
pub known_left : (a b : Bool) → b ≡ true → (a && b) ≡ a
known_left true b known = known
known_left false b known = refl

pub unknown_right : (a b : Bool) → b ≡ false → (a && b) ≡ false
unknown_right true b unknown = unknown
unknown_right false b unknown = refl
