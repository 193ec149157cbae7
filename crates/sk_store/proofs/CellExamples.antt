-- Two pages, and what calls answer of them.
use Rattle.std.specs.Prelude.{◌≡◌, ℕ, ◌<◌, ◌≤◌, List, [], ◌∷◌, Option, Some, None, true, false, Ok}
use Rattle.std.proofs.Common.{refl, arith}
use Rattle.sk_store.specs.declared.pages.PageFault.TheVariants.{Device}
use Rattle.sk_store.specs.Cells.{HasCells, cells_of, with_cell}
use Rattle.sk_store.specs.Calls.{HasFault, InsertedCell, ReadCell, ReplacedCell}

abbrev pages : List (List (Option (List ℕ)))
pages = (Some (1 ∷ 2 ∷ 3 ∷ 4 ∷ []) ∷ None ∷ Some [] ∷ []) ∷ (Some (9 ∷ []) ∷ []) ∷ []

-- a cell, a slot that is not in use, a cell without bytes, a page that is not there
in_use : cells_of pages 0 0 ≡ Some (1 ∷ 2 ∷ 3 ∷ 4 ∷ [])
in_use = refl

not_in_use : cells_of pages 0 1 ≡ None
not_in_use = refl

no_bytes : cells_of pages 0 2 ≡ Some []
no_bytes = refl

no_page : cells_of pages 2 0 ≡ None
no_page = refl

-- one cell is another, and its neighbours stay
changed : with_cell (cells_of pages) 1 0 (Some (7 ∷ [])) 1 0 ≡ Some (7 ∷ [])
changed = refl

stays : with_cell (cells_of pages) 1 0 (Some (7 ∷ [])) 0 0 ≡ Some (1 ∷ 2 ∷ 3 ∷ 4 ∷ [])
stays = refl

-- three bytes go where four are
not_refused : ReplacedCell HasCells true pages (cells_of pages) 0 0 (5 ∷ 6 ∷ 7 ∷ []) (Ok false) → ⊥
not_refused r = let longer : 4 < 3 = r.1 refl in absurd (omega arith)

-- a cell is not put where one is
not_over_a_cell : InsertedCell HasCells true pages (cells_of pages) (5 ∷ []) (Ok (0, 0)) → ⊥
not_over_a_cell r = absurd (let taken = r.0 refl in cc)

-- what is told of a slot that is not in use is no cell
not_a_cell : ReadCell HasCells true (cells_of pages 0 1) [] [] (Ok true) → ⊥
not_a_cell r = absurd (let taken = (r refl).1 in cc)

-- a fault of a device is counted
not_uncounted : HasFault 3 3 Device → ⊥
not_uncounted r = absurd (let counted : 4 ≤ 3 = r in omega arith)
