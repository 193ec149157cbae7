-- Undo records by place. A record has its number and its row, names the next older version of the row by its place, and knows the
-- number of the record that names it. A path goes from a record to the one that it names, and so on.
use Rattle.std.specs.Prelude.{◌≡◌, ℕ, zero, suc, ◌<◌, ◌≤◌, Bool, true, false, if◌then◌else◌, nat_le, List, [], ◌∷◌, length, get_or, slice_set, Option, Some, None}
use Rattle.sk_rows.specs.declared.value.Value.{Value}
use Rattle.sk_undo.specs.declared.undo.Undo.{Undo}

abbrev pub Log : Type 0
Log = List (Option Undo)

abbrev pub is_empty : Option Undo → Bool
is_empty None = true
is_empty (Some u) = false

-- the record at this place, where one stands
abbrev pub record_at : Log → ℕ → Option Undo
record_at log at = get_or log at None

-- a record stands, has a smaller number, and no record names it
abbrev pub MayBeNamed : Option Undo → ℕ → Type 0
MayBeNamed None n = ⊥
MayBeNamed (Some u) n = (u.n < n) × (u.newer ≡ None)

abbrev pub IsOlder : Log → Option ℕ → ℕ → Type 0
IsOlder log None n = Unit {0}
IsOlder log (Some at) n = MayBeNamed (record_at log at) n

abbrev pub IsStanding : Log → Option ℕ → Type 0
IsStanding log None = Unit {0}
IsStanding log (Some at) = at < length log

abbrev pub with_newer : Option Undo → ℕ → Option Undo
with_newer None n = None
with_newer (Some u) n = Some (record u { newer = Some n })

-- the record at this place is named by one of number n
abbrev pub named : Log → Option ℕ → ℕ → Log
named log None n = log
named log (Some at) n = slice_set log at (with_newer (record_at log at) n)

-- the list with x in place k, or at its end
unfoldable pub put_at : {X : Type 0} → List X → ℕ → X → List X
put_at [] k x = x ∷ []
put_at (y ∷ ys) zero x = x ∷ ys
put_at (y ∷ ys) (suc k) x = y ∷ put_at ys k x

-- the log with one more record, in this place, which names its older one
abbrev pub filled : Log → ℕ → Option ℕ → ℕ → Option (List Value) → Log
filled log at older n row = named (put_at log at (Some (record { older = older; newer = None; n = n; row = row }))) older n

unfoldable pub is_free : Log → ℕ → Bool
is_free [] at = false
is_free (s ∷ log) zero = is_empty s
is_free (s ∷ log) (suc at) = is_free log at

-- no record is at this place of the log
abbrev pub IsFree : Log → ℕ → Type 0
IsFree log at = (at < length log) × (record_at log at ≡ None)

-- no record was at this place, and the log reaches it
abbrev pub IsClaimed : Log → ℕ → Log → Type 0
IsClaimed old at new = (at ≤ length old) × (record_at old at ≡ None) × (new ≡ put_at old at None)

abbrev pub IsPushed : Log → ℕ → Log → Log → Type 0
IsPushed old at due new = (at ≤ length old) × (record_at old at ≡ None) × (new ≡ due)

-- not this place
abbrev pub Avoids : ℕ → Option ℕ → Type 0
Avoids at None = Unit {0}
Avoids at (Some p) = p ≡ at → ⊥

-- ---- paths

-- a record's older one stands, has a smaller number and is named by the record
abbrev pub IsNamed : Option Undo → ℕ → Type 0
IsNamed None n = ⊥
IsNamed (Some v) n = (v.n < n) × (v.newer ≡ Some n)

abbrev pub LinksTo : Log → Option ℕ → ℕ → Type 0
LinksTo log None n = Unit {0}
LinksTo log (Some at) n = IsNamed (record_at log at) n

abbrev pub IsLinked : Log → Option Undo → Type 0
IsLinked log None = Unit {0}
IsLinked log (Some u) = LinksTo log u.older u.n

abbrev pub AreLinked : Log → Type 0
AreLinked log = (at : ℕ) → IsLinked log (record_at log at)

abbrev pub older_of : Option Undo → Option ℕ
older_of None = None
older_of (Some u) = u.older

abbrev pub newer_of : Option Undo → Option ℕ
newer_of None = None
newer_of (Some u) = u.newer

-- no record names this place
abbrev pub IsUnnamed : Log → Option ℕ → Type 0
IsUnnamed log None = Unit {0}
IsUnnamed log (Some o) = (q : ℕ) → older_of (record_at log q) ≡ Some o → ⊥

-- no two records name one place
abbrev pub NameApart : Log → Type 0
NameApart log = (p q o : ℕ) → older_of (record_at log p) ≡ Some o → older_of (record_at log q) ≡ Some o → p ≡ q

-- what a log keeps
abbrev pub AreWhole : Log → Type 0
AreWhole log = AreLinked log × NameApart log

-- the record where a path begins has no newer one
abbrev pub IsFirst : Log → Option ℕ → Type 0
IsFirst log None = Unit {0}
IsFirst log (Some at) = newer_of (record_at log at) ≡ None

-- more than the number of the record at this place
abbrev pub bound_of : Option Undo → ℕ
bound_of None = 0
bound_of (Some u) = suc u.n

abbrev pub bound : Log → Option ℕ → ℕ
bound log None = 0
bound log (Some at) = bound_of (record_at log at)

-- the first record on the path from here whose number is at most snapshot, among this many
abbrev pub met : ℕ → ℕ → Option Undo → (Option ℕ → Option ℕ) → Option ℕ
met at snapshot None on = None
met at snapshot (Some u) on = if nat_le u.n snapshot then Some at else on u.older

unfoldable pub walk : ℕ → Log → Option ℕ → ℕ → Option ℕ
walk zero log from snapshot = None
walk (suc k) log None snapshot = None
walk (suc k) log (Some at) snapshot = met at snapshot (record_at log at) (λ older. walk k log older snapshot)

-- the first record on the path from here whose number is at most snapshot
unfoldable pub newest_for : Log → Option ℕ → ℕ → Option ℕ
newest_for log from snapshot = walk (bound log from) log from snapshot

abbrev pub row_of : Option Undo → Option (List Value)
row_of None = None
row_of (Some u) = u.row

-- the row of the record at this place
abbrev pub row_in : Log → Option ℕ → Option (List Value)
row_in log None = None
row_in log (Some at) = row_of (record_at log at)

-- the row of the version that a reader at this snapshot sees on the path from here
abbrev pub row_seen : Log → Option ℕ → ℕ → Option (List Value)
row_seen log from snapshot = row_in log (newest_for log from snapshot)

-- ---- what goes

unfoldable pub dropped_in : ℕ → Log → Option ℕ → Log
dropped_in zero log from = log
dropped_in (suc k) log None = log
dropped_in (suc k) log (Some at) = dropped_in k (slice_set log at None) (older_of (record_at log at))

-- the log without each record on the path from here
unfoldable pub dropped : Log → Option ℕ → Log
dropped log from = dropped_in (bound log from) log from

abbrev pub without_older : Option Undo → Option Undo
without_older None = None
without_older (Some u) = Some (record u { older = None })

abbrev pub unlinked : Log → ℕ → Log
unlinked log at = slice_set log at (without_older (record_at log at))

-- the log without what stands behind this place
abbrev pub cut_behind : Log → Option ℕ → Log
cut_behind log None = log
cut_behind log (Some at) = dropped (unlinked log at) (older_of (record_at log at))

-- the log without what stands behind the first record on the path from here whose number is at most upto
abbrev pub cut : Log → Option ℕ → ℕ → Log
cut log from upto = cut_behind log (newest_for log from upto)

-- the record that names this one has a number of at most upto
abbrev pub is_at_most : Option ℕ → ℕ → Bool
is_at_most None upto = false
is_at_most (Some n) upto = nat_le n upto

abbrev pub is_dead : ℕ → Option Undo → Bool
is_dead upto None = false
is_dead upto (Some u) = is_at_most u.newer upto

-- what a trim leaves of a place: nothing of a record with a newer one of at most upto, and no link behind a record of at most upto
unfoldable pub trimmed : ℕ → Option Undo → Option Undo
trimmed upto None = None
trimmed upto (Some u) = if is_at_most u.newer upto then None else if nat_le u.n upto then Some (record u { older = None }) else Some u

-- the record where a path begins is not freed by a trim
abbrev pub Stays : ℕ → Log → Option ℕ → Type 0
Stays upto log None = Unit {0}
Stays upto log (Some at) = is_dead upto (record_at log at) ≡ false
