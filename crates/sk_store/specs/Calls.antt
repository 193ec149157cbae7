-- What a call does to the cells of pages.
use Rattle.std.specs.Prelude.{◌≡◌, ℕ, ◌<◌, List, ◌++◌, length, Option, Some, None, Bool, true, false, Result, Ok, Err}
use Rattle.sk_outside.specs.Causes.{Rose}
use Rattle.sk_store.specs.declared.pages.PageFault.{PageFault}
use Rattle.sk_store.specs.declared.pages.PageFault.TheVariants.{Device, NoMemory}
use Rattle.sk_store.specs.Cells.{Cells, with_cell}

-- why a call is refused: for a device only where it was counted
abbrev pub HasFault : ℕ → ℕ → PageFault → Type 0
HasFault before now Device = Rose before now
HasFault before now NoMemory = Unit {0}

-- there is a cell only of fewer bytes
abbrev pub IsShorter : Option (List ℕ) → List ℕ → Type 0
IsShorter None bytes = Unit {0}
IsShorter (Some old) bytes = length old < length bytes

module _ {S : Type 0} (has : S → Cells → Type 0) where
  abbrev pub KeepsCells : S → S → Type 0
  KeepsCells old new = (cells : Cells) → has old cells → has new cells

  abbrev pub ReadCell : Bool → Option (List ℕ) → List ℕ → List ℕ → Result Bool PageFault → Type 0
  ReadCell told cell old new (Ok true) = told ≡ true → (bytes : List ℕ) × (cell ≡ Some bytes) × (new ≡ old ++ bytes)
  ReadCell told cell old new (Ok false) = (new ≡ old) × (told ≡ true → cell ≡ None)
  ReadCell told cell old new (Err fault) = new ≡ old

  -- where the device tells what it reads, the cell's bytes stand behind those of before
  abbrev pub ReadsCell : Bool → S → ℕ → ℕ → List ℕ → List ℕ → Result Bool PageFault → Type 0
  ReadsCell told pages page slot old new result = (cells : Cells) → has pages cells → ReadCell told (cells page slot) old new result

  abbrev pub InsertedCell : Bool → S → Cells → List ℕ → Result (ℕ × ℕ) PageFault → Type 0
  InsertedCell told new cells bytes (Ok at) = (told ≡ true → cells at.0 at.1 ≡ None) × has new (with_cell cells at.0 at.1 (Some bytes))
  InsertedCell told new cells bytes (Err fault) = has new cells

  -- into a slot that is not in use, where the device tells what it reads
  abbrev pub InsertsCell : Bool → S → S → List ℕ → Result (ℕ × ℕ) PageFault → Type 0
  InsertsCell told old new bytes result = (cells : Cells) → has old cells → InsertedCell told new cells bytes result

  abbrev pub ReplacedCell : Bool → S → Cells → ℕ → ℕ → List ℕ → Result Bool PageFault → Type 0
  ReplacedCell told new cells page slot bytes (Ok true) = has new (with_cell cells page slot (Some bytes))
  ReplacedCell told new cells page slot bytes (Ok false) = has new cells × (told ≡ true → IsShorter (cells page slot) bytes)
  ReplacedCell told new cells page slot bytes (Err fault) = has new cells

  -- the bytes, or the same cells, and that only where there is no cell of as many bytes
  abbrev pub ReplacesCell : Bool → S → S → ℕ → ℕ → List ℕ → Result Bool PageFault → Type 0
  ReplacesCell told old new page slot bytes result = (cells : Cells) → has old cells → ReplacedCell told new cells page slot bytes result

  abbrev pub RemovedCell : S → Cells → ℕ → ℕ → Result (Unit {0}) PageFault → Type 0
  RemovedCell new cells page slot (Ok x) = has new (with_cell cells page slot None)
  RemovedCell new cells page slot (Err fault) = has new cells

  abbrev pub RemovesCell : S → S → ℕ → ℕ → Result (Unit {0}) PageFault → Type 0
  RemovesCell old new page slot result = (cells : Cells) → has old cells → RemovedCell new cells page slot result
