-- What a tearing device tells.
use Rattle.std.specs.Prelude.{ℕ, true, List, reverse, length}
use Rattle.sk_device.specs.declared.change.Change.{Change}
use Rattle.sk_device.specs.declared.memory.MemDevice.{MemDevice}
use Rattle.sk_device.specs.declared.tear.Tear.{Tear}
use Rattle.sk_device.specs.declared.tearing.TearingDevice.{TearingDevice}
use Rattle.sk_device.specs.Disk.{Image, Disk, Torn}
use Rattle.sk_device.specs.Memory.{memory_image}
use Rattle.sk_device.specs.Changes.{image_after, Remains, Remained, shown_remains, counts_since, only_since}

-- what stood in its files when it was made
abbrev pub base_of : TearingDevice → Image
base_of device = memory_image device.base

-- the writes and syncs that were done, the first one first
abbrev pub log_of : TearingDevice → List Change
log_of device = device.log.items

-- the same, the last one first
abbrev pub changes_made : TearingDevice → List Change
changes_made device = reverse (log_of device)

-- its files with their lists of failing calls
abbrev pub memory_of : TearingDevice → MemDevice
memory_of device = device.memory

-- what it leaves of a write that fails
abbrev pub tear_of : TearingDevice → Tear
tear_of device = device.tear

abbrev pub tearing_disk : Disk TearingDevice
tearing_disk = record {
  tells = true;
  seen = λ device. image_after (base_of device) (changes_made device);
  may_leave = λ device image. Remains (base_of device) (changes_made device) image;
  moment = λ device. length (changes_made device);
  left_since = λ device t image. Remained (base_of device) t (changes_made device) image;
  seen_stays = λ device. shown_remains (base_of device) (changes_made device);
  counts_now = λ device t image le now. counts_since (base_of device) t (changes_made device) image now;
  only_now = λ device image left. only_since (base_of device) (changes_made device) image left;
}

-- After a write of n bytes: whatever bytes stand in the range and past the old end of an image from before it, a stop may leave that.
abbrev pub Tears : {D : Type 0} → Disk D → ℕ → ℕ → ℕ → D → D → Type 0
Tears disk file at n old new = (was image : Image) → disk.may_leave old was → Torn file at n was image → disk.may_leave new image
