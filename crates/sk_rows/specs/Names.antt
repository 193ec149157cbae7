-- The names of tables and columns.
use Rattle.std.specs.Prelude.{ℕ, Bool, false, not, ◌&&◌, ◌||◌, ◌==◌, nat_le, List, [], ◌∷◌, length, codes}
use Rattle.std.specs.List.{list_all, list_any}
use Rattle.std.specs.Str.{bytes_eq}

-- the words of the language, in lower case
abbrev pub keywords : List (List ℕ)
keywords =
    codes "table" ∷ codes "set" ∷ codes "memory" ∷ codes "storage" ∷ codes "int" ∷ codes "text" ∷ codes "bool" ∷ codes "step" ∷ codes "flush" ∷
    codes "checkpoint" ∷ codes "stop" ∷ codes "begin" ∷ codes "commit" ∷ codes "rollback" ∷ codes "insert" ∷ codes "into" ∷ codes "values" ∷ codes "select" ∷
    codes "from" ∷ codes "where" ∷ codes "update" ∷ codes "delete" ∷ codes "or" ∷ codes "and" ∷ codes "not" ∷ codes "true" ∷ codes "false" ∷ []

unfoldable pub is_keyword : List ℕ → Bool
is_keyword text = list_any (λ word. bytes_eq word text) keywords

abbrev pub is_digit : ℕ → Bool
is_digit b = nat_le 48 b && nat_le b 57

-- a to z, 0 to 9 or _
abbrev pub is_name_byte : ℕ → Bool
is_name_byte b = nat_le 97 b && nat_le b 122 || is_digit b || b == 95

unfoldable pub has_name_length : List ℕ → Bool
has_name_length text = nat_le 1 (length text) && nat_le (length text) 31

unfoldable pub begins_with_digit : List ℕ → Bool
begins_with_digit [] = false
begins_with_digit (b ∷ bs) = is_digit b

unfoldable pub are_name_bytes : List ℕ → Bool
are_name_bytes = list_all is_name_byte

-- 1 to 31 such bytes, the first no digit, and no keyword
unfoldable pub is_name : List ℕ → Bool
is_name text = has_name_length text && not (begins_with_digit text) && are_name_bytes text && not (is_keyword text)
