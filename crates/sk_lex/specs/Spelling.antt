-- How words are written, apart from how they are read.
use Rattle.std.specs.Prelude.{◌≡◌, ℕ, zero, suc, ◌+◌, ◌/◌, ◌%◌, ◌^◌, Bool, true, false, not, ◌&&◌, if◌then◌else◌, ◌==◌, nat_lt, List, [], ◌∷◌, ◌++◌, Some, None, is_none, codes, IsTrue}
use Rattle.std.specs.List.{flat_map, list_all}
use Rattle.sk_rows.specs.Text.{are_printable}
use Rattle.sk_lex.specs.declared.front.Class.TheVariants as class
use Rattle.sk_lex.specs.declared.token.Keyword.{Keyword}
use Rattle.sk_lex.specs.declared.token.Keyword.TheVariants as key
use Rattle.sk_lex.specs.declared.token.Word.{Word}
use Rattle.sk_lex.specs.declared.token.Word.TheVariants as word
use Rattle.sk_lex.specs.Front.{Text, amount, begins, first, is_in, is_pair, is_single, keyword}
use Rattle.sk_lex.specs.Marks as mark

-- a quote in a text is written twice
abbrev pub quoted : ℕ → Text
quoted b = if b == mark.quote then mark.quote ∷ mark.quote ∷ [] else b ∷ []

abbrev pub quoted_text : Text → Text
quoted_text t = mark.quote ∷ flat_map quoted t ++ mark.quote ∷ []

-- the second byte of a mark is 0 where there is one
abbrev pub mark_text : ℕ → ℕ → Text
mark_text a b = if b == 0 then a ∷ [] else a ∷ b ∷ []

-- letters, digits and _, the first no digit
unfoldable pub is_word : Text → Bool
is_word s = begins class.Letters s && not (begins class.Digits s) && list_all (is_in class.Letters) s

-- these bytes are a way to write the word
abbrev pub IsWritten : Word → Text → Type 0
IsWritten (word.Key k) s = keyword s ≡ Some k
IsWritten (word.Name t) s = (s ≡ t) × IsTrue (is_word t) × (keyword t ≡ None)
IsWritten (word.Number n) s = (amount 0 s ≡ n) × IsTrue (list_all (is_in class.Digits) s)
IsWritten (word.Text t) s = s ≡ quoted_text t
IsWritten (word.Mark a b) s = s ≡ mark_text a b

-- what stands behind a word does not make it longer
abbrev pub IsEnd : Word → Text → Type 0
IsEnd (word.Key k) z = begins class.Letters z ≡ false
IsEnd (word.Name t) z = begins class.Letters z ≡ false
IsEnd (word.Number n) z = begins class.Digits z ≡ false
IsEnd (word.Text t) z = begins class.Quote z ≡ false
IsEnd (word.Mark a b) z = b ≡ 0 → is_pair a (first z) ≡ false

-- ---- the one way in which words are printed

-- the last so many decimal digits, without zeros before them
unfoldable pub digits : ℕ → ℕ → Text
digits zero n = []
digits (suc k) n = (if nat_lt n 10 then [] else digits k (n / 10)) ++ (48 + n % 10) ∷ []

-- in capitals
unfoldable pub key_text : Keyword → Text
key_text key.Table = codes "TABLE"
key_text key.Set = codes "SET"
key_text key.Memory = codes "MEMORY"
key_text key.Storage = codes "STORAGE"
key_text key.Int = codes "INT"
key_text key.Text = codes "TEXT"
key_text key.Bool = codes "BOOL"
key_text key.Step = codes "STEP"
key_text key.Flush = codes "FLUSH"
key_text key.Checkpoint = codes "CHECKPOINT"
key_text key.Stop = codes "STOP"
key_text key.Begin = codes "BEGIN"
key_text key.Commit = codes "COMMIT"
key_text key.Rollback = codes "ROLLBACK"
key_text key.Insert = codes "INSERT"
key_text key.Into = codes "INTO"
key_text key.Values = codes "VALUES"
key_text key.Select = codes "SELECT"
key_text key.From = codes "FROM"
key_text key.Where = codes "WHERE"
key_text key.Update = codes "UPDATE"
key_text key.Delete = codes "DELETE"
key_text key.Or = codes "OR"
key_text key.And = codes "AND"
key_text key.Not = codes "NOT"
key_text key.True = codes "TRUE"
key_text key.False = codes "FALSE"

abbrev pub spell : Word → Text
spell (word.Key k) = key_text k
spell (word.Name t) = t
spell (word.Number n) = digits 20 n
spell (word.Text t) = quoted_text t
spell (word.Mark a b) = mark_text a b

abbrev pub spaced : Word → Text
spaced w = 32 ∷ spell w

-- each word behind a space
unfoldable pub spelled : List Word → Text
spelled = flat_map spaced

-- the printed form of the word is read as the word
abbrev pub can_be_spelled : Word → Bool
can_be_spelled (word.Key k) = true
can_be_spelled (word.Name t) = is_word t && is_none (keyword t)
can_be_spelled (word.Number n) = nat_lt n (2 ^ 64)
can_be_spelled (word.Text t) = are_printable t
can_be_spelled (word.Mark a b) = if b == 0 then is_single a else is_pair a b

-- a line of these words, a space between two
unfoldable pub joined : List Word → Text
joined [] = []
joined (w ∷ ws) = spell w ++ spelled ws
