-- What a run does to its store, from call to call.
use Rattle.std.specs.Prelude.{◌≡◌, ◌⊎◌, ◌≤◌, ℕ, Bool, List, [], ◌++◌, Option, Some, None, true, false, IsTrue}
use Rattle.sk_outside.specs.Causes.{Rose}
use Rattle.sk_device.specs.Disk.{Disk, Steps}
use Rattle.sk_model.specs.declared.point.Point.{Point}
use Rattle.sk_model.specs.declared.receipt.Receipt.{Receipt}
use Rattle.sk_log.specs.declared.ends.Ends.{Ends}
use Rattle.sk_cut.specs.Batches.{as_cut}
use Rattle.sk_cut.specs.Flush.{AllAt}
use Rattle.sk_outcome.specs.declared.flush_note.FlushNote.{FlushNote}
use Rattle.sk_durable.specs.Growing.{OnlyGrows}
use Rattle.sk_durable.specs.Kept.{Kept}

module _ {D : Type 0} (disk : Disk D) (faults : D → ℕ) where
  -- at each moment from one to the other an image opens as one from before, with perhaps more commits; and no fault is forgotten
  pub record Grows (old new : D) : Type 0 where
    pub images : IsTrue disk.tells → Steps disk OnlyGrows old new
    pub later : faults old ≤ faults new

  -- the store only grew, a log may be as long as before, and where it broke meanwhile its disk failed
  pub record Saves (old new : Kept D) : Type 0 where
    pub grows : Grows old.disk new.disk
    pub limit : new.logmax ≡ old.logmax
    pub broke : new.broken ≡ true → (old.broken ≡ true) ⊎ Rose (faults old.disk) (faults new.disk)

-- who was told that a commit is durable, and the durable cut
pub record Saved : Type 0 where
  pub receipts : List Receipt
  pub cut : Point

abbrev pub saved_in : {D : Type 0} → Kept D → Saved
saved_in kept = record { receipts = kept.receipts; cut = kept.cut }

-- before the first flush of a run from this cut
abbrev pub saved_first : Point → Saved
saved_first cut = record { receipts = []; cut = cut }

-- behind a flush of this note
abbrev pub saved_by : FlushNote → Saved → Saved
saved_by note s = record { receipts = s.receipts ++ note.receipts; cut = note.cut }

-- and behind one that may not have been made
abbrev pub saved_last : Option FlushNote → Saved → Saved
saved_last None s = s
saved_last (Some note) s = saved_by note s

-- What is kept at the end of a run whose store was this before its last flush: the store only grew, and unless the disk failed every image opens
-- at the durable cut.
pub record IsKept {D : Type 0} (disk : Disk D) (faults : D → ℕ) (old : Kept D) (receipts : List Receipt) (cut : Point) (broken : Bool) (now : D) : Type 0 where
  pub grows : Grows disk faults old.disk now
  pub stands : broken ≡ false → IsTrue disk.tells → (ends : Ends) × AllAt disk (as_cut cut) ends now
  pub broke : broken ≡ true → (old.broken ≡ true) ⊎ Rose (faults old.disk) (faults now)
