-- A worked page: a cell of three bytes in slot 0, nothing in slot 1, a cell without bytes in slot 2.
use Rattle.std.specs.Prelude.{◌≡◌, ℕ, List, [], ◌∷◌, Option, Some, None, take, drop, length, sum_by}
use Rattle.std.proofs.Common.{refl}
use Rattle.sk_page.specs.Cells.{cost, free, first_free}
use Rattle.sk_page.specs.Bytes.{spelled, page_bytes}

abbrev cells : List (Option (List ℕ))
cells = Some (7 ∷ 8 ∷ 9 ∷ []) ∷ None ∷ Some [] ∷ []

-- three slots, two cells, four bytes 0; no empty slot before the first cell, one before the second; then what is free
bytes : take 20 (page_bytes cells) ≡ 0 ∷ 3 ∷ 0 ∷ 2 ∷ 0 ∷ 0 ∷ 0 ∷ 0 ∷ 0 ∷ 0 ∷ 0 ∷ 3 ∷ 7 ∷ 8 ∷ 9 ∷ 0 ∷ 1 ∷ 0 ∷ 0 ∷ 0 ∷ []
unfolding page_bytes spelled free
bytes = refl

-- two cells of 3 and 0 bytes cost 11 of the 4,088 bytes behind the header
left : free cells ≡ 4077
unfolding free
left = refl

lowest : first_free cells ≡ 1
unfolding first_free
lowest = refl
