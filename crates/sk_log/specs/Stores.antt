-- What a disk opens as: the root, the image, and group by group both logs, or the first fault.
use Rattle.std.specs.Prelude.{ℕ, zero, suc, ◌+◌, ◌-◌, Bool, true, List, [], ◌++◌, length, get_or, take, drop, Option, Some, None, Result, Ok, Err, nat_lt, nat_le, ◌||◌, ◌&&◌, ◌==◌, if◌then◌else◌, map}
use Rattle.std.specs.List.{filter}
use Rattle.std.specs.Int.{w8, w32, w64, from_be_bytes}
use Rattle.sk_device.specs.Disk.{Image}
use Rattle.sk_rows.specs.declared.table.Table.{Table}
use Rattle.sk_model.specs.declared.commit.Commit.{Commit}
use Rattle.sk_model.specs.declared.point.Point.{Point}
use Rattle.sk_model.specs.Database.{Tables, state}
use Rattle.sk_codec.specs.declared.fault.What.{What}
use Rattle.sk_codec.specs.declared.fault.What.TheVariants as what
use Rattle.sk_codec.specs.declared.fault.Fault.{Fault}
use Rattle.sk_codec.specs.Reading.{Rest, ◌>>=◌, wrong, number_at, number_in}
use Rattle.sk_model.specs.Numbers.{greatest_number}
use Rattle.sk_log.specs.declared.ends.Ends.{Ends}
use Rattle.sk_log.specs.declared.root.Root.{Root as AnyRoot}
use Rattle.sk_log.specs.Calls.{store_file, anchor_file, image_file}
use Rattle.sk_log.specs.Images.{Base, base_at}
use Rattle.sk_log.specs.declared.logged.Logged.{Logged}
use Rattle.sk_log.specs.declared.logged.Head.{Head}
use Rattle.sk_log.specs.Groups.{head_at, body_at, records_to, halves, is_cross, selection}

abbrev pub at_place : What → ℕ → ℕ → Fault
at_place w file place = record { file = file; place = place; what = w }

-- ---- groups

-- what is known between two groups
pub record LogPosition : Type 0 where
  pub catalog : List Table
  pub set : ℕ
  pub cut : Point
  pub end : ℕ
  pub gate : ℕ
  pub mem : List Commit
  pub store : List Commit

abbrev pub commits : List Logged → List Commit
commits fs = map (λ f. f.commit) fs

-- the group behind an open gate, from the records of its body and of its range of the storage log
unfoldable pub group_of : LogPosition → Head → List Logged → List Logged → ℕ → Result LogPosition Fault
group_of s head mem store gate = do
  both ← halves (store_file s.set) (anchor_file s.set) (filter is_cross store) (filter is_cross mem)
  Ok (record { catalog = s.catalog; set = s.set; cut = head.cut; end = head.end; gate = gate; mem = s.mem ++ commits mem; store = s.store ++ commits store })

-- what stands between two places
abbrev pub range_of : List ℕ → ℕ → ℕ → List ℕ
range_of bytes from upto = drop from (take upto bytes)

-- a group's body, of its bytes alone
unfoldable pub body_of : LogPosition → ℕ → List ℕ → Result (Head × List Logged) Fault
body_of s next bytes = do
  head ← head_at s.cut s.end (record { file = anchor_file s.set; place = s.gate + 5; bytes = bytes })
  mem ← body_at s.catalog s.cut.a head.0.cut.a next head.1
  Ok (head.0, mem)

-- a group's records of the storage log, of their bytes alone
unfoldable pub stored_of : LogPosition → Head → List ℕ → Result (List Logged) Fault
stored_of s head bytes = records_to s.catalog true (head.end - s.end) head.end head.cut.b s.cut.b (record { file = store_file s.set; place = s.end; bytes = bytes })

-- The next group, of the bytes of both logs. The test of lengths adds nothing: a body or range that is cut has failed before.
unfoldable pub group_at : List ℕ → List ℕ → LogPosition → ℕ → Result LogPosition Fault
group_at one two s next = do
  body ← body_of s next (range_of two (s.gate + 5) next)
  store ← stored_of s body.0 (range_of one s.end body.0.end)
  if nat_lt (length two) next || nat_lt (length one) body.0.end then Err (at_place what.Length (anchor_file s.set) next) else group_of s body.0 body.1 store next

-- where the gate byte behind a group stands, from the bytes of its length
unfoldable pub next_gate : ℕ → ℕ → List ℕ → Result ℕ Fault
next_gate set gate bytes = do
  n ← number_at w32 (record { file = anchor_file set; place = gate + 1; bytes = bytes })
  if nat_lt 4294967295 (gate + 5 + n.0) then Err (at_place what.Length (anchor_file set) (gate + 1)) else Ok (gate + 5 + n.0)

unfoldable pub behind_gate : List ℕ → List ℕ → LogPosition → Result LogPosition Fault
behind_gate one two s = do
  next ← next_gate s.set s.gate (range_of two (s.gate + 1) (s.gate + 5))
  group_at one two s next

-- one turn: none where the gate is closed
unfoldable pub turn : List ℕ → List ℕ → LogPosition → Result (Option LogPosition) Fault
turn one two s =
    if nat_le (length two) s.gate then Err (at_place what.Length (anchor_file s.set) s.gate)
    else if get_or two s.gate 0 == 1 then behind_gate one two s >>= (λ t. Ok (Some t))
    else Ok None

-- Each turn passes a gate byte, so that one more turn than bytes is enough.
unfoldable pub turns : ℕ → List ℕ → List ℕ → LogPosition → Result LogPosition Fault
turns zero one two s = Err (at_place what.Length (anchor_file s.set) s.gate)
turns (suc n) one two s = turn one two s >>= elim [
  | None ↦ Ok s
  | Some t ↦ turns n one two t
]

abbrev pub logs : Image → LogPosition → Result LogPosition Fault
logs image s = turns (length (image (anchor_file s.set)) + 1) (image (store_file s.set)) (image (anchor_file s.set)) s

-- ---- the root

-- the root entry that holds
pub record Root : Type 0 where
  pub set : ℕ
  pub sequence : ℕ
  pub cut : Point
  pub size : ℕ

-- the file has all of the entry's 24 bytes, and its gate byte is 1
abbrev pub is_open : List ℕ → ℕ → Bool
is_open root at = nat_le (at + 24) (length root) && (get_or root at 0 == 1)

-- a byte from low to high
unfoldable pub byte_in : ℕ → ℕ → What → Rest → Result (ℕ × Rest) Fault
byte_in low high w rest = do
  n ← number_at w8 rest
  if nat_lt n.0 low || nat_lt high n.0 then Err (wrong w rest) else Ok n

-- an entry behind its gate: format, set, zero, sequence, cut a, cut b, and the image's length
unfoldable pub entry_at : List ℕ → ℕ → Result Root Fault
entry_at root at = do
  format ← byte_in 1 1 what.Format (record { file = 0; place = at + 1; bytes = take 23 (drop (at + 1) root) })
  set ← byte_in 0 1 what.Tag format.1
  none ← byte_in 0 0 what.Tag set.1
  sequence ← number_at w32 none.1
  a ← number_in w32 0 greatest_number sequence.1
  b ← number_in w32 0 greatest_number a.1
  size ← number_at w64 b.1
  Ok (record { set = set.0; sequence = sequence.0; cut = selection a.0 b.0; size = size.0 })

abbrev pub root_of : AnyRoot → Root
root_of r = record { set = r.set; sequence = r.sequence; cut = r.cut; size = r.size }

abbrev pub sequence_of : List ℕ → ℕ → ℕ
sequence_of root at = from_be_bytes w32 (take 4 (drop (at + 4) root))

-- the place of the entry that holds: the open one with the greater sequence
unfoldable pub holding : List ℕ → Result (Option ℕ) Fault
holding root =
    if is_open root 0 then
    (if is_open root 24 then
    (if sequence_of root 0 == sequence_of root 24 then Err (at_place what.Order 0 28)
    else if nat_lt (sequence_of root 0) (sequence_of root 24) then Ok (Some 24) else Ok (Some 0))
    else Ok (Some 0))
    else if is_open root 24 then Ok (Some 24) else Ok None

-- ---- the whole

-- what a disk opens as: catalog and rows of the image, the commits of both logs, the cut, and where the logs end
pub record Opening : Type 0 where
  pub base : Base
  pub mem : List Commit
  pub store : List Commit
  pub cut : Point
  pub ends : Ends

-- the rows that it opens with; each engine wrote its own tables alone
abbrev pub rows_of : Opening → Tables
rows_of o = state o.base.rows (o.mem ++ o.store)

-- no rows of any of these tables
abbrev pub no_rows : List Table → Tables
no_rows catalog = map (λ _. []) catalog

abbrev pub new_store : List Table → Point → Opening
new_store catalog start = record { base = record { catalog = catalog; rows = no_rows catalog }; mem = []; store = []; cut = start; ends = record { set = 0; store_end = 0; gate = 0 } }

abbrev pub opened : Base → LogPosition → Opening
opened base t = record { base = base; mem = t.mem; store = t.store; cut = t.cut; ends = record { set = t.set; store_end = t.end; gate = t.gate } }

abbrev pub begun : Root → Base → LogPosition
begun root base = record { catalog = base.catalog; set = root.set; cut = root.cut; end = 0; gate = 0; mem = []; store = [] }

-- from the root entry that stands there: the image, then the logs
unfoldable pub open_from : Image → ℕ → Result Opening Fault
open_from image at = do
  root ← entry_at (image 0) at
  base ← base_at (image_file root.set) (image (image_file root.set)) root.size
  t ← logs image (begun root base)
  Ok (opened base t)

-- what an image opens as, where a new store has this catalog and this cut; or the first fault
unfoldable pub opens : List Table → Point → Image → Result Opening Fault
opens catalog start image = holding (image 0) >>= elim [
  | None ↦ Ok (new_store catalog start)
  | Some at ↦ open_from image at
]
