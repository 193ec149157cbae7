-- A tearing device goes on from one moment to the next.
use Rattle.std.proofs.Common.{◌≡◌, inl, inr, ⊎_elim, ℕ, List, ◌∷◌, length, reverse, sym, ap, ◌∙◌, subst, arith}
use Rattle.sk_device.specs.declared.change.Change.{Change}
use Rattle.sk_device.specs.declared.change.Change.TheVariants.{Wrote, Synced}
use Rattle.sk_device.specs.declared.tearing.TearingDevice.{TearingDevice}
use Rattle.sk_device.specs.Disk.{Image, with_bytes, overwritten, Puts, Torn, AfterStep, Steps, Looks}
use Rattle.sk_device.specs.Changes.{image_after, rewritten, Remains, Remained, Keeps, counts_since}
use Rattle.sk_device.specs.Tearing.{base_of, changes_made, Tears, tearing_disk}
use Rattle.sk_device.proofs.Bytes.{puts_with, torn_same}
use Rattle.sk_device.proofs.Histories.{same_image}

-- the same files, and changes that show the same
pub kept : (base now was : Image) (old new : List Change) → now ≡ was → image_after base new ≡ image_after base old → ((file : ℕ) → was file ≡ image_after base old file) → (file : ℕ) → now file ≡ image_after base new file
kept base now was old new same show is file = ap (λ (im : Image). im file) same ∙ is file ∙ ap (λ (im : Image). im file) (sym show)

-- the files after a write
pub shows_wrote : (base was now : Image) (old new : List Change) (file at k : ℕ) (bytes : List ℕ) → Keeps file at k bytes old new
    → ((f : ℕ) → was f ≡ image_after base (reverse old) f) → Puts file (overwritten (was file) at bytes) was now → (f : ℕ) → now f ≡ image_after base (reverse new) f
shows_wrote base was now old new file at k bytes keeps is puts f =
    let w = keeps.write in
    let same : with_bytes file at bytes was ≡ rewritten w was =
    sym (ap (λ (k : ℕ). with_bytes k w.at w.bytes.items was) keeps.is_file ∙ ap (λ (a : ℕ). with_bytes file a w.bytes.items was) keeps.is_at ∙ ap (λ (l : List ℕ). with_bytes file at l was) keeps.is_bytes) in
    let shown : rewritten w was ≡ image_after base (reverse new) = ap (rewritten w) (same_image was (image_after base (reverse old)) is) ∙ sym (ap (image_after base) keeps.pushed) in
    puts_with file at bytes was now puts f ∙ ap (λ (im : Image). im f) (same ∙ shown)

-- a write that was done, of which these bytes stand
module _ (m n : TearingDevice) (file at k : ℕ) (bytes : List ℕ) (base : base_of n ≡ base_of m) (keeps : Keeps file at k bytes m.log.items n.log.items) where
  was_left : (image : Image) → Remains (base_of n) (changes_made n) image → Remains (base_of m) (Wrote keeps.write ∷ changes_made m) image
  was_left image left = subst (λ (b : Image). Remains b (Wrote keeps.write ∷ changes_made m) image) base (subst (λ (l : List Change). Remains (base_of n) l image) keeps.pushed left)

  is_left : (image : Image) → Remains (base_of m) (Wrote keeps.write ∷ changes_made m) image → Remains (base_of n) (changes_made n) image
  is_left image left = subst (λ (l : List Change). Remains (base_of n) l image) (sym keeps.pushed) (subst (λ (b : Image). Remains b (Wrote keeps.write ∷ changes_made m) image) (sym base) left)

  torn_is : (was image : Image) → Torn keeps.write.file keeps.write.at keeps.write.size was image → Torn file at k was image
  torn_is was image torn =
      let one = subst (λ (f : ℕ). Torn f keeps.write.at keeps.write.size was image) keeps.is_file torn in
      let two = subst (λ (a : ℕ). Torn file a keeps.write.size was image) keeps.is_at one in
      subst (λ (s : ℕ). Torn file at s was image) keeps.is_size two

  after : (image : Image) → Remains (base_of m) (Wrote keeps.write ∷ changes_made m) image → AfterStep tearing_disk (Torn file at k) m image
  after image (was, left, torn) = (was, left, torn_is was image torn)

  seen_is : image_after (base_of n) (changes_made n) ≡ rewritten keeps.write (image_after (base_of m) (changes_made m))
  seen_is = ap (λ (l : List Change). image_after (base_of n) l) keeps.pushed ∙ ap (λ (b : Image). rewritten keeps.write (image_after b (changes_made m))) base

-- a sync that was done
module _ (m n : TearingDevice) (file : ℕ) (base : base_of n ≡ base_of m) (more : changes_made n ≡ Synced file ∷ changes_made m) where
  synced_left : (image : Image) → Remains (base_of n) (changes_made n) image → Remains (base_of m) (Synced file ∷ changes_made m) image
  synced_left image left = subst (λ (b : Image). Remains b (Synced file ∷ changes_made m) image) base (subst (λ (l : List Change). Remains (base_of n) l image) more left)

  pub looks_synced : Looks tearing_disk m n
  looks_synced = record {
    seen = ap (λ (l : List Change). image_after (base_of n) l) more ∙ ap (λ (b : Image). image_after b (changes_made m)) base;
    later = omega (arith, ap length more);
    now = λ image left. (synced_left image left).0;
    since = λ t image le left.
        ⊎_elim (λ now. counts_since (base_of m) t (changes_made m) image now.0) (λ (_, past). past)
        (subst (λ (b : Image). Remained b t (Synced file ∷ changes_made m) image) base (subst (λ (l : List Change). Remained (base_of n) t l image) more left));
    keeps = λ t image le left.
        subst (λ (l : List Change). Remained (base_of n) t l image) (sym more)
        (subst (λ (b : Image). Remained b t (Synced file ∷ changes_made m) image) (sym base) (inr (le, left)));
  }
