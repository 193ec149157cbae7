-- The words of the command line.
use Rattle.std.specs.Prelude.{ℕ, ◌+◌, ◌-◌, ◌*◌, List, [], ◌∷◌, Bool, false, not, ◌==◌, ◌&&◌, nat_le, if◌then◌else◌, Option, Some, None, is_some, codes}
use Rattle.std.specs.List.{list_all}
use Rattle.std.specs.Str.{bytes_eq}

-- a word that may name a directory: not empty, and without `-` in front
unfoldable pub is_directory : List ℕ → Bool
is_directory [] = false
is_directory (b ∷ bs) = not (b == 45)

-- ---- numbers

abbrev pub is_digit : ℕ → Bool
is_digit b = nat_le 48 b && nat_le b 57

-- decimal digits, with no zero before others
abbrev pub is_decimal : List ℕ → Bool
is_decimal [] = false
is_decimal (b ∷ []) = is_digit b
is_decimal (b ∷ c ∷ bs) = not (b == 48) && list_all is_digit (b ∷ c ∷ bs)

-- what digits come to, behind others that come to n
abbrev pub amount : ℕ → List ℕ → ℕ
amount n [] = n
amount n (b ∷ bs) = amount (10 * n + (b - 48)) bs

-- no number past a greatest one
abbrev pub up_to : ℕ → ℕ → Option ℕ
up_to most n = if nat_le n most then Some n else None

-- the number that a word is, up to a greatest one
unfoldable pub number_to : ℕ → List ℕ → Option ℕ
number_to most word = if is_decimal word then up_to most (amount 0 word) else None

-- ---- forms

-- two numbers, where there are both
abbrev pub both : Option ℕ → Option ℕ → Option (ℕ × ℕ)
both (Some m) (Some n) = Some (m, n)
both _ _ = None

-- the seed and the number of transfers, where the words are `gen SEED N DIR`
unfoldable pub transfers_of : List (List ℕ) → Option (ℕ × ℕ)
transfers_of (first ∷ seed ∷ count ∷ last ∷ []) =
    if bytes_eq first (codes "gen") && is_directory last then both (number_to 65536 seed) (number_to 100000 count) else None
transfers_of _ = None

-- the last word, where the words are `run DIR` or `gen SEED N DIR`
unfoldable pub place : List (List ℕ) → Option (List ℕ)
place (first ∷ last ∷ []) = if bytes_eq first (codes "run") && is_directory last then Some last else None
place (first ∷ seed ∷ count ∷ last ∷ []) = if is_some (transfers_of (first ∷ seed ∷ count ∷ last ∷ [])) then Some last else None
place _ = None
