-- How a new store is made.
use Rattle.std.specs.Prelude.{◌≡◌, ◌≢◌, ◌<◌, ℕ, Bool, true, false, List, length, get_or, None, Ok, ◌==◌, ◌||◌}
use Rattle.sk_device.specs.Disk.{Image, Disk}
use Rattle.sk_rows.specs.declared.table.Table.{Table}
use Rattle.sk_model.specs.declared.point.Point.{Point}
use Rattle.sk_log.specs.Images.{base_at}
use Rattle.sk_log.specs.Stores.{holding, opens, new_store, no_rows}
use Rattle.sk_log.specs.Spelled.{entry_bytes}
use Rattle.sk_log.specs.Growth.{OpensAs}

-- each image that a stop may leave has P
abbrev pub AllImages : {D : Type 0} → Disk D → (Image → Type 0) → D → Type 0
AllImages disk P device = (image : Image) → disk.may_leave device image → P image

-- no root entry is open
abbrev pub Unrooted : Image → Type 0
Unrooted image = holding (image 0) ≡ Ok None

-- and byte 0 of the root stands there and is no open gate
pub record IsShut (image : Image) : Type 0 where
  pub unrooted : Unrooted image
  pub some : 0 < length (image 0)
  pub shut : get_or (image 0) 0 0 ≢ 1

-- It is so, or the root is shorter than an entry and its byte 0 has to be written.
abbrev pub CanShut : Bool → Image → Type 0
CanShut true image = Unrooted image × (length (image 0) < 24)
CanShut false image = IsShut image

-- the entry of a new store behind its gate: set 0, sequence 1, the cut, and the image's length
abbrev pub entry_text : Point → ℕ → List ℕ
entry_text start size = entry_bytes 0 1 start size

-- the text is an image of this catalog without rows
abbrev pub IsEmptyImage : List Table → List ℕ → Type 0
IsEmptyImage catalog text = base_at 5 text (length text) ≡ Ok (record { catalog = catalog; rows = no_rows catalog })

-- an image opens as the one that it came from
abbrev pub Reopens : List Table → Point → Image → Image → Type 0
Reopens catalog start was image = opens catalog start image ≡ opens catalog start was

-- and the two other files of a new store are the same
pub record Remakes (catalog : List Table) (start : Point) (was image : Image) : Type 0 where
  pub opens : Reopens catalog start was image
  pub anchor : image 2 ≡ was 2
  pub base : image 5 ≡ was 5

-- a root entry is open, and the image opens as the new store
abbrev pub IsMade : List Table → Point → Image → Type 0
IsMade catalog start image = OpensAs image (new_store catalog start)

-- byte 0 of the root has to be written: there is none, or it reads 1
abbrev pub needs_gate : List ℕ → Bool
needs_gate root = (length root == 0) || (get_or root 0 0 == 1)
