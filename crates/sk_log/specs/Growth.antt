-- How a store grows by a group.
use Rattle.std.specs.Prelude.{◌≡◌, ◌≤◌, ℕ, ◌+◌, List, [], ◌∷◌, ◌++◌, length, take, Some, Ok}
use Rattle.std.specs.Int.{w32, to_be_bytes}
use Rattle.sk_device.specs.Disk.{Image}
use Rattle.sk_rows.specs.declared.table.Table.{Table}
use Rattle.sk_model.specs.declared.point.Point.{Point}
use Rattle.sk_model.specs.declared.commit.Commit.{Commit}
use Rattle.sk_log.specs.declared.ends.Ends.{Ends}
use Rattle.sk_log.specs.Calls.{store_file, anchor_file, image_file}
use Rattle.sk_log.specs.declared.logged.Logged.{Logged}
use Rattle.sk_log.specs.declared.logged.Head.{Head}
use Rattle.sk_log.specs.Stores.{LogPosition, Opening, holding, open_from, body_of, stored_of, group_of}

-- a root entry is open, and the image opens so
pub record OpensAs (image : Image) (o : Opening) : Type 0 where
  pub at : ℕ
  pub rooted : holding (image 0) ≡ Ok (Some at)
  pub opens : open_from image at ≡ Ok o

-- it opens at this cut and with these ends
pub record OpensAt (cut : Point) (ends : Ends) (image : Image) : Type 0 where
  pub opening : Opening
  pub stands : OpensAs image opening
  pub is_cut : opening.cut ≡ cut
  pub is_ends : opening.ends ≡ ends

-- nothing differs before the ends of the logs
pub record Behind (ends : Ends) (was image : Image) : Type 0 where
  pub root : image 0 ≡ was 0
  pub base : image (image_file ends.set) ≡ was (image_file ends.set)
  pub store : take ends.store_end (image (store_file ends.set)) ≡ take ends.store_end (was (store_file ends.set))
  pub anchor : take ends.gate (image (anchor_file ends.set)) ≡ take ends.gate (was (anchor_file ends.set))

-- what stands behind the gate byte: a length, a body, and the next gate, closed
abbrev pub group_text : List ℕ → List ℕ
group_text body = to_be_bytes w32 (length body) ++ body ++ 0 ∷ []

-- what is known at the ends, with no commits before them
abbrev pub from_ends : List Table → Point → Ends → LogPosition
from_ends catalog cut ends = record { catalog = catalog; set = ends.set; cut = cut; end = ends.store_end; gate = ends.gate; mem = []; store = [] }

abbrev pub next_ends : Ends → List ℕ → List ℕ → Ends
next_ends ends store body = record { set = ends.set; store_end = ends.store_end + length store; gate = ends.gate + 5 + length body }

-- the body and the range, read alone behind these ends, are the group of these commits
pub record Follows (catalog : List Table) (cut : Point) (ends : Ends) (store body : List ℕ) (to : Point) (mem stored : List Commit) : Type 0 where
  pub fits : ends.gate + 5 + length body ≤ 4294967295
  pub head : Head
  pub mem_records : List Logged
  pub store_records : List Logged
  pub is_body : body_of (from_ends catalog cut ends) (ends.gate + 5 + length body) body ≡ Ok (head, mem_records)
  pub is_end : head.end ≡ ends.store_end + length store
  pub is_store : stored_of (from_ends catalog cut ends) head store ≡ Ok store_records
  pub is_group : group_of (from_ends catalog cut ends) head mem_records store_records (ends.gate + 5 + length body)
      ≡ Ok (record { catalog = catalog; set = ends.set; cut = to; end = ends.store_end + length store; gate = ends.gate + 5 + length body; mem = mem; store = stored })

-- an opening with a group more
abbrev pub grown : Opening → List ℕ → List ℕ → Point → List Commit → List Commit → Opening
grown o store body to mem stored = record { base = o.base; mem = o.mem ++ mem; store = o.store ++ stored; cut = to; ends = next_ends o.ends store body }
