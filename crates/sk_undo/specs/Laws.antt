-- What holds of undo records as they come and go.
use Rattle.std.specs.Prelude.{◌≡◌, ◌⊎◌, ℕ, ◌≤◌, if◌then◌else◌, nat_le, List, length, map, Option, Some, None}
use Rattle.sk_rows.specs.declared.value.Value.{Value}
use Rattle.sk_undo.specs.Log.{AreWhole, Avoids, IsClaimed, IsFirst, IsFree, IsOlder, Log, Stays, cut, dropped, filled, newest_for, record_at, row_of, row_seen, trimmed}

-- a record that is added changes nothing of what paths from other places show
abbrev pub PushKeeps : Type 0
PushKeeps = (log : Log) (at : ℕ) (older : Option ℕ) (n : ℕ) (row : Option (List Value)) (from : Option ℕ) (snapshot : ℕ)
    → AreWhole log → IsOlder log older n → record_at log at ≡ None → at ≤ length log → Avoids at from
    → newest_for (filled log at older n row) from snapshot ≡ newest_for log from snapshot

-- a trim leaves each path, whose first record stays, what snapshots from its number on see of it
abbrev pub TrimKeeps : Type 0
TrimKeeps = (log : Log) (upto : ℕ) (from : Option ℕ) (snapshot : ℕ)
    → AreWhole log → Stays upto log from → upto ≤ snapshot
    → newest_for (map (trimmed upto) log) from snapshot ≡ newest_for log from snapshot

-- a cut of some path leaves each path from its first record on what snapshots from its number on see of it
abbrev pub CutKeeps : Type 0
CutKeeps = (log : Log) (path : Option ℕ) (upto : ℕ) (from : Option ℕ) (snapshot : ℕ)
    → AreWhole log → IsFirst log from → upto ≤ snapshot
    → newest_for (cut log path upto) from snapshot ≡ newest_for log from snapshot

-- a path that goes from its first record on leaves every other such path what it shows
abbrev pub DropKeeps : Type 0
DropKeeps = (log : Log) (at from snapshot : ℕ)
    → AreWhole log → IsFirst log (Some at) → IsFirst log (Some from) → (from ≡ at → ⊥)
    → newest_for (dropped log (Some at)) (Some from) snapshot ≡ newest_for log (Some from) snapshot

-- a place that is claimed changes nothing of what is seen
abbrev pub ClaimShows : Type 0
ClaimShows = (old new : Log) (at : ℕ) (from : Option ℕ) (snapshot : ℕ) → IsClaimed old at new → row_seen new from snapshot ≡ row_seen old from snapshot

-- from a record that is added, its row is seen from its number on, and before it what was seen from its older one
abbrev pub FillShows : Type 0
FillShows = (log : Log) (at : ℕ) (older : Option ℕ) (n : ℕ) (row : Option (List Value)) (snapshot : ℕ)
    → AreWhole log → IsFree log at → IsOlder log older n
    → row_seen (filled log at older n row) (Some at) snapshot ≡ (if nat_le n snapshot then row else row_seen log older snapshot)

-- where a record is added, the row of each place is the new one or the one of before
abbrev pub FillRows : Type 0
FillRows = (log : Log) (at : ℕ) (older : Option ℕ) (n : ℕ) (row : Option (List Value)) (q : ℕ)
    → AreWhole log → IsFree log at → IsOlder log older n
    → (row_of (record_at (filled log at older n row) q) ≡ row) ⊎ (row_of (record_at (filled log at older n row) q) ≡ row_of (record_at log q))
