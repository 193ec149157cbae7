-- What a run keeps on disk.
use Rattle.std.specs.Prelude.{◌≡◌, ◌⊎◌, ℕ, ◌+◌, ◌≤◌, Bool, false, IsTrue, ◌==◌, ◌&&◌, List, [], ◌∷◌, length, get_or, max, nat_le, nat_lt, if◌then◌else◌}
use Rattle.sk_device.specs.Disk.{Disk}
use Rattle.sk_rows.specs.declared.table.Table.{Table}
use Rattle.sk_model.specs.declared.point.Point.{Point}
use Rattle.sk_model.specs.declared.receipt.Need.{Need}
use Rattle.sk_model.specs.declared.receipt.Receipt.{Receipt}
use Rattle.sk_log.specs.declared.ends.Ends.{Ends}
use Rattle.sk_cut.specs.Acked.{IsAcking}
use Rattle.sk_cut.specs.Batches.{as_cut}
use Rattle.sk_cut.specs.Flush.{AllAt}
use Rattle.sk_cut.specs.Receipts.{View}
use Rattle.sk_durable.specs.Growing.{AllOver}

-- What a clause sees of it: the tables, the disk, where its logs end and how long they may get, the durable cut, the needs that were queued, those of them that wait, who was told, for how many more there is room, and whether the device has failed.
pub record Kept (D : Type 0) : Type 0 where
  pub catalog : List Table
  pub disk : D
  pub ends : Ends
  pub logmax : ℕ
  pub cut : Point
  pub queued : List Need
  pub waiting : List Need
  pub receipts : List Receipt
  pub reserved : ℕ
  pub broken : Bool

-- the greatest number of a transaction of this session whose need was queued, 0 before the first
abbrev pub newest : ℕ → List Need → ℕ
newest session [] = 0
newest session (n ∷ ns) = max (if n.label.session == session then n.label.k else 0) (newest session ns)

-- The need is of a session of 1 to 64, and of a later transaction than those of its session that were queued.
abbrev pub goes_on : Need → List Need → Bool
goes_on need queued = nat_le need.label.session 64 && nat_lt (newest need.label.session queued) need.label.k

-- each number is the greatest of its session
abbrev pub AreNewest : List ℕ → List Need → Type 0
AreNewest last queued = (session : ℕ) → session ≤ 64 → get_or last session 0 ≡ newest session queued

-- what holds between the calls of a run, of its pipeline, the needs that were queued, who was told, and the greatest number of each session
pub record Holds {D : Type 0} (disk : Disk D) (catalog : List Table) (pipeline : View D) (queued : List Need) (receipts : List Receipt) (last : List ℕ) : Type 0 where
  pub acking : IsAcking queued pipeline.waiting receipts pipeline.cut
  pub counted : length receipts + length pipeline.waiting ≡ length queued
  pub newest : AreNewest last queued
  pub stands : pipeline.broken ≡ false → IsTrue disk.tells → AllAt disk (as_cut pipeline.cut) pipeline.ends pipeline.disk
  pub over : IsTrue disk.tells → AllOver disk catalog pipeline.disk
