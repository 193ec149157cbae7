-- The writes and syncs that were done, the last one first: what reads give after them, and what a stop may leave. The base is what stood before the first of them.
use Rattle.std.specs.Prelude.{◌≡◌, ◌⊎◌, ◌==◌, ℕ, ◌≤◌, List, [], ◌∷◌, ◌++◌, length, take, drop, replicate, reverse, if◌then◌else◌, refl, Bool, false, Option, None, Some}
use Rattle.std.specs.List.{list_any}
use Rattle.std.proofs.Math.Nat.{not-suc-le_self}
use mathlib.Core.Logic.{inl, inr}
use Rattle.sk_device.specs.declared.change.Change.{Change}
use Rattle.sk_device.specs.declared.change.Change.TheVariants.{Wrote, Synced}
use Rattle.sk_device.specs.declared.change.Written.{Written}
use Rattle.sk_device.specs.declared.tear.Tear.{Tear}
use Rattle.sk_device.specs.Disk.{Image, with_bytes, Torn}

-- an image after a write
abbrev pub rewritten : Written → Image → Image
rewritten w = with_bytes w.file w.at w.bytes.items

-- what a read gives after these changes
abbrev pub image_after : Image → List Change → Image
image_after base [] = base
image_after base (Wrote w ∷ before) = rewritten w (image_after base before)
image_after base (Synced file ∷ before) = image_after base before

-- whether the change is a sync of this file
abbrev pub syncs : ℕ → Change → Bool
syncs file (Wrote w) = false
syncs file (Synced synced) = synced == file

-- what a stop after these changes may leave: any bytes in the range of a write and past the old end, and of a file that is synced what a read gives
abbrev pub Remains : Image → List Change → Image → Type 0
Remains base [] image = image ≡ base
Remains base (Wrote w ∷ before) image = (was : Image) × Remains base before was × Torn w.file w.at w.size was image
Remains base (Synced file ∷ before) image = Remains base before image × (image file ≡ image_after base before file)

-- what a stop might have left at one of the moments since the first t of these changes
abbrev pub Remained : Image → ℕ → List Change → Image → Type 0
Remained base t [] image = Remains base [] image
Remained base t (change ∷ before) image = Remains base (change ∷ before) image ⊎ ((t ≤ length before) × Remained base t before image)

-- in place of so many bytes
abbrev pub filling : Option ℕ → ℕ → List ℕ
filling None n = []
filling (Some byte) n = replicate n byte

-- what stands in place of these bytes: the first of them, and the filler for the others where there is one
abbrev pub standing : Tear → List ℕ → List ℕ
standing tear bytes = take tear.stands bytes ++ filling tear.filler (length (drop tear.stands bytes))

-- the first of these, or one that leaves nothing of a write
abbrev pub first_tear : List Tear → Tear
first_tear [] = record { stands = 0; filler = None }
first_tear (tear ∷ tears) = tear

-- an image after a write that was cut short
abbrev pub cut_short : Written → Tear → Image → Image
cut_short w tear = with_bytes w.file w.at (standing tear w.bytes.items)

-- The image after these changes, the first one first, and a stop: a write that is followed by a sync of its file stands whole. Each other one is cut short by the next tear.
abbrev pub left_by : List Change → List Tear → Image → Image
left_by [] tears was = was
left_by (Wrote w ∷ later) tears was =
    if list_any (syncs w.file) later then left_by later tears (rewritten w was) else left_by later (drop 1 tears) (cut_short w (first_tear tears) was)
left_by (Synced file ∷ later) tears was = left_by later tears was

-- one write more, of n bytes, of which these stand
pub record Keeps (file at n : ℕ) (bytes : List ℕ) (old new : List Change) : Type 0 where
  pub write : Written
  pub is_file : write.file ≡ file
  pub is_at : write.at ≡ at
  pub is_size : write.size ≡ n
  pub is_bytes : write.bytes.items ≡ bytes
  pub pushed : reverse new ≡ Wrote write ∷ reverse old

pub shown_remains : (base : Image) (changes : List Change) → Remains base changes (image_after base changes)
shown_remains base [] = refl
shown_remains base (Wrote w ∷ before) = (image_after base before, shown_remains base before, w.torn (image_after base before))
shown_remains base (Synced file ∷ before) = (shown_remains base before, refl)

pub counts_since : (base : Image) (t : ℕ) (changes : List Change) (image : Image) → Remains base changes image → Remained base t changes image
counts_since base t [] image now = now
counts_since base t (change ∷ before) image now = inl now

pub only_since : (base : Image) (changes : List Change) (image : Image) → Remained base (length changes) changes image → Remains base changes image
only_since base [] image now = now
only_since base (change ∷ before) image (inl now) = now
only_since base (change ∷ before) image (inr (le, past)) = absurd (not-suc-le_self (length before) le)
