-- The token at the front of some bytes.
use Rattle.std.specs.Prelude.{◌≤◌, ℕ, ◌+◌, ◌-◌, ◌*◌, ◌^◌, Bool, true, false, ◌&&◌, ◌||◌, if◌then◌else◌, ◌==◌, nat_le, nat_lt, List, [], ◌∷◌, ◌++◌, take, codes, Option, Some, None, Result, Ok, Err}
use Rattle.std.specs.List.{prefix_len}
use Rattle.std.specs.Str.{str_eq_ignore_ascii_case}
use Rattle.sk_rows.specs.Text.{are_printable, is_printable}
use Rattle.sk_lex.specs.declared.front.Class.{Class}
use Rattle.sk_lex.specs.declared.front.Class.TheVariants as class
use Rattle.sk_lex.specs.declared.front.Misfit.{Misfit}
use Rattle.sk_lex.specs.declared.front.Misfit.TheVariants as misfit
use Rattle.sk_lex.specs.declared.token.Keyword.{Keyword}
use Rattle.sk_lex.specs.declared.token.Keyword.TheVariants as key
use Rattle.sk_lex.specs.declared.token.Word.{Word}
use Rattle.sk_lex.specs.declared.token.Word.TheVariants as word
use Rattle.sk_lex.specs.Marks as mark

abbrev pub Text : Type 0
Text = List ℕ

-- a token's word and its length, or why there is none
abbrev pub Found : Type 0
Found = Result (Word × ℕ) Misfit

-- whether the misfit is want of memory
abbrev pub wants_memory : Misfit → Bool
wants_memory (misfit.Bad n) = false
wants_memory misfit.Open = false
wants_memory misfit.NoMemory = true

-- a token has some bytes, and a misfit is found in them
abbrev pub IsWithin : {X : Type 0} → ℕ → Result (X × ℕ) Misfit → Type 0
IsWithin len (Ok r) = (1 ≤ r.1) × (r.1 ≤ len)
IsWithin len (Err (misfit.Bad n)) = n ≤ len
IsWithin len (Err misfit.Open) = Unit {0}
IsWithin len (Err misfit.NoMemory) = Unit {0}

abbrev pub is_letter : ℕ → Bool
is_letter b = (nat_le 65 b && nat_le b 90) || (nat_le 97 b && nat_le b 122) || b == 95

abbrev pub is_digit : ℕ → Bool
is_digit b = nat_le 48 b && nat_le b 57

abbrev pub is_in : Class → ℕ → Bool
is_in class.Letters b = is_letter b || is_digit b
is_in class.Digits b = is_digit b
is_in class.Printable b = is_printable b
is_in class.Quote b = b == mark.quote

-- how many bytes of the class stand at the front
unfoldable pub run : Class → Text → ℕ
run c = prefix_len (is_in c)

unfoldable pub begins : Class → Text → Bool
begins c [] = false
begins c (b ∷ z) = is_in c b

-- ---- words

abbrev pub lookup : List (Text × Keyword) → Text → Option Keyword
lookup [] text = None
lookup (k ∷ ks) text = if str_eq_ignore_ascii_case k.0 text then Some k.1 else lookup ks text

-- the keywords and how they are spelled, in any mixture of cases
abbrev pub keywords : List (Text × Keyword)
keywords =
    (codes "table", key.Table) ∷
    (codes "set", key.Set) ∷
    (codes "memory", key.Memory) ∷
    (codes "storage", key.Storage) ∷
    (codes "int", key.Int) ∷
    (codes "text", key.Text) ∷
    (codes "bool", key.Bool) ∷
    (codes "step", key.Step) ∷
    (codes "flush", key.Flush) ∷
    (codes "checkpoint", key.Checkpoint) ∷
    (codes "stop", key.Stop) ∷
    (codes "begin", key.Begin) ∷
    (codes "commit", key.Commit) ∷
    (codes "rollback", key.Rollback) ∷
    (codes "insert", key.Insert) ∷
    (codes "into", key.Into) ∷
    (codes "values", key.Values) ∷
    (codes "select", key.Select) ∷
    (codes "from", key.From) ∷
    (codes "where", key.Where) ∷
    (codes "update", key.Update) ∷
    (codes "delete", key.Delete) ∷
    (codes "or", key.Or) ∷
    (codes "and", key.And) ∷
    (codes "not", key.Not) ∷
    (codes "true", key.True) ∷
    (codes "false", key.False) ∷
    []

unfoldable pub keyword : Text → Option Keyword
keyword = lookup keywords

abbrev pub word_of : Text → Option Keyword → Word
word_of text (Some k) = word.Key k
word_of text None = word.Name text

unfoldable pub word_at : Text → Found
word_at z = let n = run class.Letters z in Ok (word_of (take n z) (keyword (take n z)), n)

-- ---- numbers

abbrev pub amount : ℕ → Text → ℕ
amount n [] = n
amount n (b ∷ z) = amount (n * 10 + (b - 48)) z

unfoldable pub number : Text → Option ℕ
number digits = if nat_lt (amount 0 digits) (2 ^ 64) then Some (amount 0 digits) else None

abbrev pub number_of : ℕ → Option ℕ → Found
number_of n (Some value) = Ok (word.Number value, n)
number_of n None = Err (misfit.Bad 0)

unfoldable pub number_at : Text → Found
number_at z = let n = run class.Digits z in number_of n (number (take n z))

-- ---- texts

-- What a text holds, and how many of its bytes were read. The flag: a quote was read, which ends the text unless a second follows.
abbrev pub text_from : Bool → Text → ℕ → Text → Option (Text × ℕ)
text_from false found at [] = None
text_from true found at [] = Some (found, at)
text_from false found at (b ∷ z) = if b == mark.quote then text_from true found (at + 1) z else text_from false (found ++ b ∷ []) (at + 1) z
text_from true found at (b ∷ z) = if b == mark.quote then text_from false (found ++ mark.quote ∷ []) (at + 1) z else Some (found, at)

abbrev pub text_of : Text → Option (Text × ℕ) → Found
text_of z None = Err misfit.Open
text_of z (Some r) = if are_printable r.0 then Ok (word.Text r.0, r.1) else Err (misfit.Bad (1 + run class.Printable z))

unfoldable pub text_at : Text → Found
text_at [] = Err (misfit.Bad 0)
text_at (b ∷ z) = text_of z (text_from false [] 1 z)

-- ---- marks

unfoldable pub is_single : ℕ → Bool
is_single b = (nat_le mark.open_paren b && nat_le b mark.minus) || (nat_le mark.colon b && nat_le b mark.greater)

unfoldable pub is_pair : ℕ → ℕ → Bool
is_pair b c = (b == mark.less && (c == mark.equals || c == mark.greater)) || (b == mark.greater && c == mark.equals)

abbrev pub first : Text → ℕ
first [] = 0
first (b ∷ z) = b

unfoldable pub mark_at : Text → Found
mark_at [] = Err (misfit.Bad 0)
mark_at (b ∷ z) = if is_pair b (first z) then Ok (word.Mark b (first z), 2) else if is_single b then Ok (word.Mark b mark.none, 1) else Err (misfit.Bad 0)

-- The token at the front of these bytes, and its length. A word is a run of letters and digits that begins with no digit.
unfoldable pub front : Text → Found
front z =
    if begins class.Digits z then number_at z
    else if begins class.Letters z then word_at z
    else if begins class.Quote z then text_at z
    else mark_at z
