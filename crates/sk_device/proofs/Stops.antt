-- The files after a stop, one change after another.
use Rattle.std.proofs.Common.{◌≡◌, inl, inr, ℕ, ◌+◌, ◌≤◌, ◌<◌, ◌==◌, ◌||◌, Bool, true, false, if◌then◌else◌, List, ◌∷◌, [], length, take, drop, reverse, get_or, Option, Some, None, refl, sym, ap, ◌∙◌, subst, arith, length-append, length-drop}
use Rattle.std.specs.List.{list_any}
use Rattle.std.proofs.lemmas.Bool.{cases_eq, eq-eqb, true≢false}
use Rattle.std.proofs.lemmas.List.{take_more, take_all, drop_more, drop_all, reverse-append, length-take, length-replicate}
use Rattle.sk_device.specs.declared.change.Change.{Change}
use Rattle.sk_device.specs.declared.change.Change.TheVariants.{Wrote, Synced}
use Rattle.sk_device.specs.declared.change.Written.{Written}
use Rattle.sk_device.specs.declared.tear.Tear.{Tear}
use Rattle.sk_device.specs.Disk.{Image, overwritten, Torn}
use Rattle.sk_device.specs.Changes.{image_after, rewritten, standing, filling, cut_short, first_tear, left_by, syncs, Remains}
use Rattle.sk_device.proofs.Bytes.{torn_with, with_there}

-- what a tear leaves is no longer than the write
pub standing_no_longer : (tear : Tear) (bytes : List ℕ) → length (standing tear bytes) ≤ length bytes
standing_no_longer tear bytes = omega (arith, length-append (take tear.stands bytes) (filling tear.filler (length (drop tear.stands bytes))), length-take tear.stands bytes, length-drop tear.stands bytes, short tear.filler (length (drop tear.stands bytes)))
  where
    short : (filler : Option ℕ) (n : ℕ) → length (filling filler n) ≤ n
    short None n = omega arith
    short (Some byte) n = omega (arith, length-replicate {A = ℕ} n byte)

-- An image after the first changes, the last of them first. A file that one of the later changes syncs reads as a read gives it.
pub record IsRedone (base : Image) (before later : List Change) (image : Image) : Type 0 where
  pub left : Remains base before image
  pub settled : (file : ℕ) → list_any (syncs file) later ≡ true → image file ≡ image_after base before file

or_right : (b x : Bool) → x ≡ true → (b || x) ≡ true
or_right true x is = refl
or_right false x is = is

module _ (base : Image) (before later : List Change) (image new : Image) where
  pub wrote_whole : (w : Written) → IsRedone base before (Wrote w ∷ later) image → new ≡ rewritten w image → IsRedone base (Wrote w ∷ before) later new
  wrote_whole w redone is = record {
    left = (image, redone.left, subst (λ (im : Image). Torn w.file w.at w.size image im) (sym is) (w.torn image));
    settled = λ file later. ap (λ (im : Image). im file) is ∙ ap (λ (l : List ℕ). if file == w.file then overwritten l w.at w.bytes.items else l) (redone.settled file later);
  }

  pub wrote_torn : (w : Written) (tear : Tear) → IsRedone base before (Wrote w ∷ later) image → list_any (syncs w.file) later ≡ false
      → new ≡ cut_short w tear image → IsRedone base (Wrote w ∷ before) later new
  wrote_torn w tear redone unsynced is = record {
    left = (image, redone.left, subst (λ (im : Image). Torn w.file w.at w.size image im) (sym is) (torn_with w.file w.at (standing tear w.bytes.items) image w.size (omega (arith, standing_no_longer tear w.bytes.items, w.fits))));
    settled = settled;
  }
    where
      settled : (file : ℕ) → list_any (syncs file) later ≡ true → new file ≡ rewritten w (image_after base before) file
      settled file synced = elim (cases_eq file w.file) [
        | inl here ↦ absurd (true≢false (sym (subst (λ (f : ℕ). list_any (syncs f) later ≡ true) here synced) ∙ unsynced))
        | inr ne ↦
            ap (λ (im : Image). im file) is ∙ with_there w.file w.at (standing tear w.bytes.items) image file ne ∙ redone.settled file synced
            ∙ sym (with_there w.file w.at w.bytes.items (image_after base before) file ne)
      ]

pub synced : (base : Image) (before later : List Change) (image new : Image) (file : ℕ) → new ≡ image → IsRedone base before (Synced file ∷ later) image → IsRedone base (Synced file ∷ before) later new
synced base before later image new file same redone = subst (λ (im : Image). IsRedone base (Synced file ∷ before) later im) (sym same) (record {
  left = (redone.left, redone.settled file (ap (λ (b : Bool). b || list_any (syncs file) later) (eq-eqb file file refl)));
  settled = λ other is. redone.settled other (or_right (file == other) (list_any (syncs other) later) is);
})

-- the next change of a list
pub next : (base : Image) (log : List Change) (done : ℕ) (d change : Change) (image new : Image) → done < length log → get_or log done d ≡ change
    → (IsRedone base (reverse (take done log)) (change ∷ drop (done + 1) log) image → IsRedone base (change ∷ reverse (take done log)) (drop (done + 1) log) new)
    → IsRedone base (reverse (take done log)) (drop done log) image → IsRedone base (reverse (take (done + 1) log)) (drop (done + 1) log) new
next base log done d change image new lt is step redone =
    let later = drop (done + 1) log in
    let before = reverse (take done log) in
    let rest : drop done log ≡ change ∷ later = drop_more log done d lt ∙ ap (λ (c : Change). c ∷ later) is in
    let made : reverse (take (done + 1) log) ≡ change ∷ before = ap (λ (l : List Change). reverse l) (take_more log done d lt)
    ∙ reverse-append (take done log) (get_or log done d ∷ []) ∙ ap (λ (c : Change). c ∷ before) is in
    subst (λ (l : List Change). IsRedone base l later new) (sym made) (step (subst (λ (l : List Change). IsRedone base before l image) rest redone))

-- after the last change
pub ended : (base : Image) (log later : List Change) (done : ℕ) (image new : Image) → length log ≤ done → IsRedone base (reverse (take done log)) later image → new ≡ image → Remains base (reverse log) new
ended base log later done image new all redone same =
    subst (λ (l : List Change). Remains base (reverse l) new) (take_all done log all) (subst (λ (im : Image). Remains base (reverse (take done log)) im) (sym same) redone.left)

module _ (later : List Change) (tears : List Tear) (was now : Image) where
  pub chosen_whole : (w : Written) → list_any (syncs w.file) later ≡ true → now ≡ rewritten w was → left_by later tears now ≡ left_by (Wrote w ∷ later) tears was
  chosen_whole w settled is =
      ap (λ (im : Image). left_by later tears im) is
      ∙ sym (ap (λ (b : Bool). if b then left_by later tears (rewritten w was) else left_by later (drop 1 tears) (cut_short w (first_tear tears) was)) settled)

  pub chosen_torn : (w : Written) (rest : List Tear) (tear : Tear) → list_any (syncs w.file) later ≡ false → rest ≡ drop 1 tears → tear ≡ first_tear tears
      → now ≡ cut_short w tear was → left_by later rest now ≡ left_by (Wrote w ∷ later) tears was
  chosen_torn w rest tear unsynced is_rest is_tear is =
      ap (λ (im : Image). left_by later rest im) is
      ∙ ap (λ (l : List Tear). left_by later l (cut_short w tear was)) is_rest
      ∙ ap (λ (t : Tear). left_by later (drop 1 tears) (cut_short w t was)) is_tear
      ∙ sym (ap (λ (b : Bool). if b then left_by later tears (rewritten w was) else left_by later (drop 1 tears) (cut_short w (first_tear tears) was)) unsynced)

-- what is left of the tears, one change on
pub chosen_next : (log : List Change) (done : ℕ) (d change : Change) (tears rest : List Tear) (image new end : Image) → done < length log → get_or log done d ≡ change
    → left_by (drop (done + 1) log) rest new ≡ left_by (change ∷ drop (done + 1) log) tears image → left_by (drop done log) tears image ≡ end → left_by (drop (done + 1) log) rest new ≡ end
chosen_next log done d change tears rest image new end lt is step so_far =
    let all : drop done log ≡ change ∷ drop (done + 1) log = drop_more log done d lt ∙ ap (λ (c : Change). c ∷ drop (done + 1) log) is in
    step ∙ ap (λ (l : List Change). left_by l tears image) (sym all) ∙ so_far

-- after the last change
pub chosen_all : (log : List Change) (done : ℕ) (tears : List Tear) (image new end : Image) → length log ≤ done → left_by (drop done log) tears image ≡ end → new ≡ image → new ≡ end
chosen_all log done tears image new end all so_far same =
    same ∙ sym (ap (λ (l : List Change). left_by l tears image) (drop_all done log all)) ∙ so_far
