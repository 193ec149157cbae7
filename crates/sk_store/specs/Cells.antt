-- Cells by page and slot.
use Rattle.std.specs.Prelude.{◌≡◌, ℕ, List, [], Option, cond, ◌==◌, ◌&&◌, get_or}
use Rattle.sk_page.specs.Cells.{cell_at}

-- the bytes of the cell on a page in a slot, where one is in use
abbrev pub Cells : Type 0
Cells = ℕ → ℕ → Option (List ℕ)

-- one cell is another, or none
abbrev pub with_cell : Cells → ℕ → ℕ → Option (List ℕ) → Cells
with_cell cells page slot cell p s = cond ((p == page) && (s == slot)) cell (cells p s)

-- the cells of pages that are a list
abbrev pub cells_of : List (List (Option (List ℕ))) → Cells
cells_of pages page slot = cell_at (get_or pages page []) slot

-- a list of pages has these cells
abbrev pub HasCells : List (List (Option (List ℕ))) → Cells → Type 0
HasCells pages cells = (page slot : ℕ) → cells page slot ≡ cells_of pages page slot

-- of two lists of pages, the second has one other cell
abbrev pub Changes : List (List (Option (List ℕ))) → List (List (Option (List ℕ))) → ℕ → ℕ → Option (List ℕ) → Type 0
Changes old new page slot cell = HasCells new (with_cell (cells_of old) page slot cell)
