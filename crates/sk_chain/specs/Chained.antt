-- What contracts see of the versions of one row.
use Rattle.std.specs.Prelude.{◌≡◌, ℕ, List, [], ◌∷◌, ◌++◌, ◌<◌, ◌≤◌, ◌+◌, ◌^◌, length, Option, Some, None, Bool, true, false, IfSome}
use Rattle.std.specs.List.{AllByRecursion}
use Rattle.sk_chain.specs.declared.version.VersionState.{VersionState}
use Rattle.sk_chain.specs.declared.version.VersionState.TheVariants.{Open, Closed, Stamped}
pub use Rattle.sk_chain.specs.declared.version.Version.{Version}

-- the versions that are stamped, oldest first, and the one that is open or closed
pub record Chained : Type 0 where
  pub settled : List Version
  pub top : Option Version

abbrev pub how_many : Option Version → ℕ
how_many None = 0
how_many (Some v) = 1

abbrev pub listed : Option Version → List Version
listed None = []
listed (Some v) = v ∷ []

-- those that stand, oldest first
abbrev pub versions : Chained → List Version
versions c = c.settled ++ listed c.top

abbrev pub empty : Chained
empty = record { settled = []; top = None }

abbrev pub is_stamped : VersionState → Bool
is_stamped Open = false
is_stamped (Closed f) = false
is_stamped (Stamped n) = true

-- the settled versions are stamped, and the one on top is open or closed
pub record IsChain (c : Chained) : Type 0 where
  pub settled : AllByRecursion (λ v. is_stamped v.state ≡ true) c.settled
  pub top : IfSome c.top (λ v. is_stamped v.state ≡ false)

-- a chain with room for the stamp of its top, and with indices of 32 bits
pub record IsHeld (room : ℕ) (c : Chained) : Type 0 where
  pub chain : IsChain c
  pub room_left : length c.settled + how_many c.top ≤ room
  pub indices : length c.settled + how_many c.top < 2 ^ 32
