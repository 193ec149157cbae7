-- What a write of one row does.
use Rattle.std.specs.Prelude.{◌≡◌, ℕ, ◌≤◌, List, Option, Some, None, Result, Ok, Err, Bool, true, not, All}
use Rattle.sk_outside.specs.Causes.{Rose}
use Rattle.std.specs.List.{sum_by}
use Rattle.sk_rows.specs.declared.value.Value.{Value}
use Rattle.sk_rows.specs.declared.table.Column.{Column}
use Rattle.sk_rows.specs.Values.{IsShort, encoded_len}
use Rattle.sk_model.specs.declared.label.Label.{Label}
use Rattle.sk_model.specs.declared.call.EngineFault.{EngineFault}
use Rattle.sk_model.specs.declared.call.EngineFault.TheVariants as fault
use Rattle.sk_model.specs.Database.{RowOf}
use Rattle.sk_chain.specs.Chained.{Chained}
use Rattle.sk_chain.specs.Writing.{conflict, is_by}
use Rattle.sk_chain.specs.Changing.{pushed}
use Rattle.sk_store.specs.declared.head.Head.{Head}
use Rattle.sk_store.specs.declared.head.Spot.{Spot}
use Rattle.sk_store.specs.Cells.{Cells}
use Rattle.sk_store.specs.Shown.{HasRow, IsFresh, OthersStay, RowShows}

-- want of memory, or a fault of the device that was counted
abbrev pub IsRefusal : ℕ → ℕ → EngineFault → Type 0
IsRefusal before now (fault.Old a b) = ⊥
IsRefusal before now (fault.Busy by) = ⊥
IsRefusal before now (fault.Conflict by why) = ⊥
IsRefusal before now fault.Device = Rose before now
IsRefusal before now fault.NoMemory = Unit {0}

-- the row of some table
abbrev pub IsSmall : List Value → Type 0
IsSmall row = All IsShort row × (sum_by encoded_len row ≤ 1024)

abbrev pub IsSmallRow : Option RowOf → Type 0
IsSmallRow None = Unit {0}
IsSmallRow (Some row) = IsSmall row

module _ {S : Type 0} (has : S → Cells → Type 0) (told : Bool) where
  -- a cell has the bytes, in the slot that is told; the old one is gone, and the others stay
  abbrev pub PutCell : {E : Type 0} → S → Cells → Option Spot → List ℕ → Result Spot E → Type 0
  PutCell new cells was bytes (Ok at) = (after : Cells) × has new after × (after at.page at.slot ≡ Some bytes) × OthersStay cells after was (Some at) × (told ≡ true → IsFresh cells was (Some at))
  PutCell new cells was bytes (Err e) = has new cells

  abbrev pub PutsCell : {E : Type 0} → S → S → Option Spot → List ℕ → Result Spot E → Type 0
  PutsCell old new was bytes result = (cells : Cells) → has old cells → PutCell new cells was bytes result

  -- the same of a row or an absence
  abbrev pub WroteCell : {E : Type 0} → S → Cells → Option Spot → Option RowOf → Result (Option Spot) E → Type 0
  WroteCell new cells was row (Ok at) = (after : Cells) × has new after × HasRow after at row × OthersStay cells after was at × (told ≡ true → IsFresh cells was at)
  WroteCell new cells was row (Err e) = has new cells

  abbrev pub WritesCell : {E : Type 0} → S → S → Option Spot → Option RowOf → Result (Option Spot) E → Type 0
  WritesCell old new was row result = (cells : Cells) → has old cells → WroteCell new cells was row result

  -- all that was shown is shown
  abbrev pub Left : S → Cells → List Column → Value → Option Spot → Head → Chained → Type 0
  Left new cells columns key was h c = has new cells × RowShows told cells columns key h c × (h.cell ≡ was)

  -- the head shows the version that was written, and other cells than its own stay
  abbrev pub Wrote : S → Cells → List Column → Value → Option Spot → Head → Chained → Type 0
  Wrote new cells columns key was h c = (after : Cells) × has new after × RowShows told after columns key h c × OthersStay cells after was h.cell × (told ≡ true → IsFresh cells was h.cell)

  abbrev pub WroteOr : {X E : Type 0} → S → Cells → List Column → Value → Option Spot → Head → Chained → Chained → Result X E → Type 0
  WroteOr new cells columns key was h c d (Ok x) = Wrote new cells columns key was h d
  WroteOr new cells columns key was h c d (Err e) = Left new cells columns key was h c

  -- a write of a row: done, and whether it is the first of its transaction; or refused, and nothing is changed
  abbrev pub RowPushed : ℕ → ℕ → S → Cells → List Column → Value → Option Spot → Head → Chained → Label → ℕ → Option RowOf → Result Bool EngineFault → Type 0
  RowPushed before now new cells columns key was h c by s row (Ok first) = (conflict c by s ≡ None) × (first ≡ not (is_by by c.top)) × Wrote new cells columns key was h (pushed c by row)
  RowPushed before now new cells columns key was h c by s row (Err (fault.Conflict other why)) = (conflict c by s ≡ Some (record { by = other; why = why })) × Left new cells columns key was h c
  RowPushed before now new cells columns key was h c by s row (Err fault.NoMemory) = Left new cells columns key was h c
  RowPushed before now new cells columns key was h c by s row (Err fault.Device) = Rose before now × Left new cells columns key was h c
  RowPushed before now new cells columns key was h c by s row (Err (fault.Old a b)) = ⊥
  RowPushed before now new cells columns key was h c by s row (Err (fault.Busy other)) = ⊥
