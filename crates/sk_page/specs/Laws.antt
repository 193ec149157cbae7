-- What holds of the bytes of a page.
use Rattle.std.specs.Prelude.{◌≡◌, ℕ, ◌≤◌, ◌<◌, ◌^◌, List, length, sum_by, Option, Some}
use Rattle.sk_page.specs.Cells.{cost}
use Rattle.sk_page.specs.Bytes.{page_bytes, page_of}

-- the slots of a page can be counted in two bytes, and its cells fit behind its header
pub record IsPage (cells : List (Option (List ℕ))) : Type 0 where
  pub few : length cells < 2 ^ 16
  pub room : sum_by cost cells ≤ 4088

-- a page is spelled in 4,096 bytes
abbrev pub PageHasItsSize : Type 0
PageHasItsSize = (cells : List (Option (List ℕ))) → IsPage cells → length (page_bytes cells) ≡ 4096

-- from its bytes a page is read as it was
abbrev pub PageIsReadBack : Type 0
PageIsReadBack = (cells : List (Option (List ℕ))) → IsPage cells → page_of (page_bytes cells) ≡ Some cells
