-- A batch of commits, and its bytes.
use Rattle.std.specs.Prelude.{◌≡◌, ℕ, ◌<◌, ◌≤◌, ◌^◌, ◌+◌, Bool, ◌==◌, ◌&&◌, true, List, length, get_or, All, Option, Some, None, nat_lt, if◌then◌else◌}
use Rattle.std.specs.List.{AllByRecursion}
use Rattle.sk_model.specs.declared.point.Point.{Point}
use Rattle.sk_model.specs.declared.receipt.FlushFault.{FlushFault}
use Rattle.sk_model.specs.declared.receipt.FlushFault.TheVariants as fault
use Rattle.sk_log.specs.declared.ends.Ends.{Ends}
use Rattle.sk_log.specs.Groups.{selection}
use Rattle.sk_log.specs.Spelled.{IsSpellable, records_bytes, body_bytes}
use Rattle.sk_cut.specs.declared.pipeline.Batch.{Batch}

-- a cut as a store has it: its two numbers alone count
abbrev pub as_cut : Point → Point
as_cut p = selection p.a p.b

-- the two numbers are the same
abbrev pub same_cut : Point → Point → Bool
same_cut p q = (p.a == q.a) && (p.b == q.b)

-- its records of the storage log
abbrev pub stored_text : Batch → List ℕ
stored_text b = records_bytes true b.store

-- the body of its group behind these ends
abbrev pub body_text : Ends → Batch → List ℕ
body_text ends b = body_bytes b.cut (ends.store_end + length (stored_text b)) b.mem

-- its texts are short
pub record CanBeSpelled (b : Batch) : Type 0 where
  pub mem : All IsSpellable b.mem
  pub store : All IsSpellable b.store

-- four bytes can count the writes of each commit
pub record CanBeCounted (b : Batch) : Type 0 where
  pub mem : AllByRecursion (λ c. length c.writes < 2 ^ 32) b.mem
  pub store : AllByRecursion (λ c. length c.writes < 2 ^ 32) b.store

-- the length of the first log that would be too long, the storage log's first
abbrev pub full_length : ℕ → Ends → List ℕ → List ℕ → Option ℕ
full_length logmax ends store body =
    if nat_lt 0 (length store) && nat_lt logmax (ends.store_end + length store) then Some (ends.store_end + length store)
    else if nat_lt logmax (ends.gate + 6 + length body) then Some (ends.gate + 6 + length body) else None

-- what a flush may be refused with, where this is the length of the first log that would be too long
abbrev pub Refuses : Option ℕ → FlushFault → Type 0
Refuses full fault.Device = full ≡ None
Refuses full (fault.LogFull n) = full ≡ Some n
Refuses full fault.NoMemory = Unit {0}

-- the places behind these bytes are numbers of 32 bits
pub record HasRoom (ends : Ends) (store body : List ℕ) : Type 0 where
  pub stored : ends.store_end + length store < 2 ^ 32
  pub anchored : ends.gate + 5 + length body ≤ 4294967295

-- each of them is a byte
abbrev pub AreBytes : List ℕ → Type 0
AreBytes bytes = (i : ℕ) → get_or bytes i 0 < 256
