-- What a device in memory tells.
use Rattle.std.specs.Prelude.{◌≡◌, ℕ, ◌≤◌, true, [], length, drop, refl}
use Rattle.std.proofs.Common.{subst, sym}
use Rattle.sk_device.specs.declared.memory.MemDevice.{MemDevice}
use Rattle.sk_device.specs.Disk.{Image, Disk}
use Rattle.sk_device.specs.History.{image_of, HadBeen, stays, none_since}
use Rattle.sk_outside.specs.declared.calls.CallList.{CallList}
use Rattle.sk_outside.specs.Calls.{fails_of, Counts}

-- what stands in its files
abbrev pub memory_image : MemDevice → Image
memory_image m = image_of m.files

pub memory_counts : (m : MemDevice) (t : ℕ) (image : Image) → t ≤ length m.past.items → image ≡ memory_image m → HadBeen (drop t m.past.items) (memory_image m) image
memory_counts m t image le is = subst (λ (im : Image). HadBeen (drop t m.past.items) (memory_image m) im) (sym is) (stays (drop t m.past.items) (memory_image m))

-- each call is done at once, so a stop leaves what is there
abbrev pub memory_disk : Disk MemDevice
memory_disk = record {
  tells = true;
  seen = memory_image;
  may_leave = λ m image. image ≡ memory_image m;
  moment = λ m. length m.past.items;
  left_since = λ m t image. HadBeen (drop t m.past.items) (memory_image m) image;
  seen_stays = λ m. refl;
  counts_now = memory_counts;
  only_now = λ m image left. none_since m.past.items (memory_image m) image left;
}

-- the list of writes and syncs that fail
abbrev pub changes_of : MemDevice → CallList
changes_of m = m.changes

-- the list of lengths and reads that fail
abbrev pub looks_of : MemDevice → CallList
looks_of m = m.looks

abbrev pub faults_of : MemDevice → ℕ
faults_of m = m.faults

-- how many calls found no memory
abbrev pub starved_of : MemDevice → ℕ
starved_of m = m.starved

-- no call is to fail, and none has
pub record IsSure (m : MemDevice) : Type 0 where
  pub changes : fails_of (changes_of m) ≡ []
  pub looks : fails_of (looks_of m) ≡ []
  pub faults : faults_of m ≡ 0
  pub starved : starved_of m ≡ 0

-- one write or sync more was made
pub record CountsChange (old new : MemDevice) : Type 0 where
  pub changes : Counts (changes_of old) (changes_of new)
  pub looks : looks_of new ≡ looks_of old

-- one length or read more was taken
pub record CountsLook (old new : MemDevice) : Type 0 where
  pub changes : changes_of new ≡ changes_of old
  pub looks : Counts (looks_of old) (looks_of new)
