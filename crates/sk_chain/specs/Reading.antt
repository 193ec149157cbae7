-- Which version of a row a reader sees.
use Rattle.std.specs.Prelude.{ℕ, suc, List, [], ◌∷◌, Option, Some, None, Bool, false, cond, length, slice_get, nat_lt, nat_le}
use Rattle.std.specs.List.{filter}
use Rattle.sk_model.specs.declared.label.Label.{Label}
use Rattle.sk_model.specs.Records.{same_label}
use Rattle.sk_model.specs.EngineReplies.{last_in}
use Rattle.sk_chain.specs.declared.version.VersionState.{VersionState}
use Rattle.sk_chain.specs.declared.version.VersionState.TheVariants.{Open, Closed, Stamped}
use Rattle.sk_chain.specs.declared.version.Seen.{Seen}
use Rattle.sk_chain.specs.declared.version.Seen.TheVariants.{At, Nothing, Busy}
use Rattle.sk_chain.specs.Chained.{Chained, Version}

-- stamped with a number up to s
abbrev pub is_upto : ℕ → VersionState → Bool
is_upto s Open = false
is_upto s (Closed f) = false
is_upto s (Stamped n) = nat_le n s

-- closed with a floor below s
abbrev pub is_closed_below : ℕ → VersionState → Bool
is_closed_below s Open = false
is_closed_below s (Closed f) = nat_lt f s
is_closed_below s (Stamped n) = false

-- an index among the later ones, or else this one
abbrev pub later_or : Option ℕ → Bool → Option ℕ
later_or (Some at) here = Some (suc at)
later_or None here = cond here (Some 0) None

-- the index of the last version that is stamped with a number up to s
abbrev pub newest : ℕ → List Version → Option ℕ
newest s [] = None
newest s (v ∷ vs) = later_or (newest s vs) (is_upto s v.state)

abbrev pub seen_index : Option ℕ → Seen
seen_index None = Nothing
seen_index (Some at) = At at

-- a reader's own version, at the index n, stands over the stamped ones; it waits for another's closed one with a floor below s
abbrev pub over : Label → ℕ → ℕ → Option Version → Seen → Seen
over by s n None seen = seen
over by s n (Some v) seen = cond (same_label by v.by) (At n) (cond (is_closed_below s v.state) (Busy v.by) seen)

abbrev pub seen_at : Chained → Label → ℕ → Seen
seen_at c by s = over by s (length c.settled) c.top (seen_index (newest s c.settled))

-- what a reader finds: a version or none, or whom it waits for
pub data Sight : Type 0 where
  Sees : (version : Option Version) → Sight
  Waits : (by : Label) → Sight

-- what stands at the index that was answered
abbrev pub sight_of : List Version → Seen → Sight
sight_of vs (At at) = Sees (slice_get vs at)
sight_of vs Nothing = Sees None
sight_of vs (Busy by) = Waits by

-- the last of these that is stamped with a number up to s
abbrev pub last_upto : ℕ → List Version → Option Version
last_upto s vs = last_in None (filter (λ v. is_upto s v.state) vs)

-- its own version goes before what it finds among the stamped ones, and so does another's that it waits for
abbrev pub found_over : Label → ℕ → Option Version → Option Version → Sight
found_over by s None stamped = Sees stamped
found_over by s (Some v) stamped = cond (same_label by v.by) (Sees (Some v)) (cond (is_closed_below s v.state) (Waits v.by) (Sees stamped))

abbrev pub found : Chained → Label → ℕ → Sight
found c by s = found_over by s c.top (last_upto s c.settled)
