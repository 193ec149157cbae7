-- What each call makes of the versions of one row.
use Rattle.std.specs.Prelude.{ℕ, List, [], ◌∷◌, ◌++◌, Option, Some, None, Bool, true, false, cond, ◌&&◌, drop}
use Rattle.sk_model.specs.declared.label.Label.{Label}
use Rattle.sk_model.specs.Database.{RowOf}
use Rattle.sk_model.specs.Records.{same_label}
use Rattle.sk_chain.specs.declared.version.VersionState.{VersionState}
use Rattle.sk_chain.specs.declared.version.VersionState.TheVariants.{Open, Closed, Stamped}
use Rattle.sk_chain.specs.Chained.{Chained, Version}
use Rattle.sk_chain.specs.Reading.{newest}

abbrev pub is_open : VersionState → Bool
is_open Open = true
is_open (Closed f) = false
is_open (Stamped n) = false

-- nothing stands there but an open version of by
abbrev pub is_free_for : Label → Option Version → Bool
is_free_for by None = true
is_free_for by (Some v) = same_label by v.by && is_open v.state

-- no version is closed, and none is open for another
abbrev pub may_push : Chained → Label → Bool
may_push c by = is_free_for by c.top

abbrev pub pushed : Chained → Label → Option RowOf → Chained
pushed c by row = record { settled = c.settled; top = Some (record { by = by; state = Open; row = row }) }

abbrev pub with_state : VersionState → Version → Version
with_state state v = record { by = v.by; state = state; row = v.row }

abbrev pub closed_state : ℕ → VersionState → VersionState
closed_state floor Open = Closed floor
closed_state floor (Closed f) = Closed f
closed_state floor (Stamped n) = Stamped n

abbrev pub closed_version : ℕ → Option Version → Option Version
closed_version floor None = None
closed_version floor (Some v) = Some (with_state (closed_state floor v.state) v)

-- the open version is closed with the floor
abbrev pub closed : Chained → ℕ → Chained
closed c floor = record { settled = c.settled; top = closed_version floor c.top }

abbrev pub is_closed : VersionState → Bool
is_closed Open = false
is_closed (Closed f) = true
is_closed (Stamped n) = false

-- behind the stamped ones, with its number
abbrev pub behind : List Version → ℕ → Version → Chained
behind settled n v = record { settled = settled ++ with_state (Stamped n) v ∷ []; top = None }

abbrev pub stamped_on : List Version → ℕ → Option Version → Chained
stamped_on settled n None = record { settled = settled; top = None }
stamped_on settled n (Some v) = cond (is_closed v.state) (behind settled n v) (record { settled = settled; top = Some v })

-- the closed version goes behind the stamped ones, with its number
abbrev pub stamped : Chained → ℕ → Chained
stamped c n = stamped_on c.settled n c.top

-- the version that is open or closed goes
abbrev pub voided : Chained → Chained
voided c = record { settled = c.settled; top = None }

abbrev pub from_index : Option ℕ → List Version → List Version
from_index None vs = vs
from_index (Some at) vs = drop at vs

-- from the newest one with a number up to upto on
abbrev pub trimmed : Chained → ℕ → Chained
trimmed c upto = record { settled = from_index (newest upto c.settled) c.settled; top = c.top }
