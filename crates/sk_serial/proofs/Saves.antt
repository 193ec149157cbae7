-- A store that only grows, from call to call.
use Rattle.std.proofs.Common.{◌≡◌, ◌≤◌, ℕ, List, Bool, true, false, sym, ap, subst, ◌∙◌, inl, inr, ⊎_elim, arith}
use Rattle.std.specs.Prelude.{IsTrue, Result, Ok, Err, IfErr}
use Rattle.sk_outside.specs.Causes.{Rose}
use Rattle.sk_device.specs.Disk.{Disk, Steps}
use Rattle.sk_durable.specs.Kept.{Kept}
use Rattle.sk_durable.specs.Growing.{OnlyGrows}
use Rattle.sk_durable.proofs.Growing.{grows_on, grows_none}
use Rattle.sk_model.specs.declared.point.Point.{Point}
use Rattle.sk_model.specs.declared.receipt.Receipt.{Receipt}
use Rattle.sk_cut.specs.Batches.{as_cut}
use Rattle.sk_cut.specs.Flush.{AllAt}
use Rattle.sk_serial.specs.Saving.{Grows, Saves, IsKept}

pub rose_later : (a b c : ℕ) → Rose a b → b ≤ c → Rose a c
rose_later a b c rose later = omega (arith, rose, later)

pub rose_before : (a b c : ℕ) → a ≤ b → Rose b c → Rose a c
rose_before a b c later rose = omega (arith, later, rose)

module _ {D : Type 0} (disk : Disk D) (faults : D → ℕ) where
  pub grows_same : (old new : D) → new ≡ old → Grows disk faults old new
  grows_same old new is = record {
    images = λ tells. subst (λ (d : D). Steps disk OnlyGrows old d) (sym is) (grows_none disk old);
    later = omega (arith, ap faults is);
  }

  pub grows_then : (old mid new : D) → Grows disk faults old mid → Grows disk faults mid new → Grows disk faults old new
  grows_then old mid new a b = record {
    images = λ tells. grows_on disk old mid new (a.images tells) (b.images tells);
    later = omega (arith, a.later, b.later);
  }

  -- no call, or one that leaves the disk alone
  pub saves_same : (old new : Kept D) → new.disk ≡ old.disk → new.broken ≡ old.broken → new.logmax ≡ old.logmax → Saves disk faults old new
  saves_same old new is unbroken limit = record { grows = grows_same old.disk new.disk is; limit = limit; broke = λ e. inl (sym unbroken ∙ e) }

  pub saves_then : (old mid new : Kept D) → Saves disk faults old mid → Saves disk faults mid new → Saves disk faults old new
  saves_then old mid new a b = record {
    grows = grows_then old.disk mid.disk new.disk a.grows b.grows;
    limit = b.limit ∙ a.limit;
    broke = λ e. ⊎_elim
        (λ (was : mid.broken ≡ true). ⊎_elim
        (λ (first : old.broken ≡ true). inl first)
        (λ (rose : Rose (faults old.disk) (faults mid.disk)). inr (rose_later (faults old.disk) (faults mid.disk) (faults new.disk) rose b.grows.later))
        (a.broke was))
        (λ (rose : Rose (faults mid.disk) (faults new.disk)). inr (rose_before (faults old.disk) (faults mid.disk) (faults new.disk) a.grows.later rose))
        (b.broke e);
  }

  -- a refusal that left the disk as it was, which was as it had been
  pub err_grows : {X H : Type 0} (disk_of : H → D) (r : Result X H) (old mid : D) → mid ≡ old → IfErr r (λ h. disk_of h ≡ mid) → IfErr r (λ h. Grows disk faults old (disk_of h))
  err_grows disk_of (Ok x) old mid same is = tt
  err_grows disk_of (Err h) old mid same is = grows_same old (disk_of h) (is ∙ same)

  -- what is handed out of a store is kept
  pub is_kept : (old last : Kept D) (receipts : List Receipt) (cut : Point) (broken : Bool) (now : D) → Saves disk faults old last → now ≡ last.disk → receipts ≡ last.receipts → cut ≡ last.cut → broken ≡ last.broken
      → (last.broken ≡ false → IsTrue disk.tells → AllAt disk (as_cut last.cut) last.ends last.disk) → IsKept disk faults old receipts cut broken now
  is_kept old last receipts cut broken now saves same told at failed stands = rw (same, told, at, failed) (record {
    grows = saves.grows;
    stands = λ whole tells. (last.ends, stands whole tells);
    broke = saves.broke;
  })
