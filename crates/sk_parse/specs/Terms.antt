-- Names, literals and operators: what a word is, alone.
use Rattle.std.specs.Prelude.{ℕ, zero, suc, true, false, ◌&&◌, if◌then◌else◌, ◌==◌, nat_lt, nat_le, List, length, Option, Some, None, ℤ, pos, negsuc}
use Rattle.sk_lex.specs.declared.token.Keyword.TheVariants as key
use Rattle.sk_lex.specs.declared.token.Word.{Word}
use Rattle.sk_lex.specs.declared.token.Word.TheVariants as word
use Rattle.sk_lex.specs.Marks as mark
use Rattle.sk_rows.specs.declared.expr.Op.{Op}
use Rattle.sk_rows.specs.declared.expr.Op.TheVariants as op
use Rattle.sk_rows.specs.declared.value.Value.{Value}
use Rattle.sk_rows.specs.declared.value.Value.TheVariants as value
use Rattle.sk_rows.specs.Names.{is_name}
use Rattle.sk_rows.specs.Limits.{longest_text}
use Rattle.sk_parse.specs.declared.cursor.Sign.TheVariants as sign
use Rattle.sk_parse.specs.declared.terms.Level.{Level}
use Rattle.sk_parse.specs.declared.terms.Level.TheVariants as level
use Rattle.sk_parse.specs.Input.{Parser, ◌>>=◌, eat, taken}

abbrev pub name_of : Word → Option (List ℕ)
name_of (word.Name t) = if is_name t then Some t else None
name_of _ = None

unfoldable pub name : Parser (List ℕ)
name = taken name_of

abbrev pub int_of : ℕ → Option Value
int_of n = if nat_lt n 9223372036854775808 then Some (value.Int (pos n)) else None

abbrev pub minus : ℕ → ℤ
minus zero = pos 0
minus (suc n) = negsuc n

abbrev pub negative_int : ℕ → Option Value
negative_int n = if nat_le n 9223372036854775808 then Some (value.Int (minus n)) else None

abbrev pub text_of : List ℕ → Option Value
text_of t = if nat_le (length t) longest_text then Some (value.Text t) else None

-- a literal of one word
abbrev pub value_of : Word → Option Value
value_of (word.Number n) = int_of n
value_of (word.Text t) = text_of t
value_of (word.Key key.True) = Some (value.Bool true)
value_of (word.Key key.False) = Some (value.Bool false)
value_of _ = None

-- what may stand behind a minus
abbrev pub negative_of : Word → Option Value
negative_of (word.Number n) = negative_int n
negative_of _ = None

unfoldable pub plain : Parser Value
plain = taken value_of

unfoldable pub negative : Parser Value
negative = taken negative_of

unfoldable pub literal : Parser Value
literal = do
  is_negative ← eat (sign.Mark mark.minus mark.none)
  if is_negative then negative else plain

abbrev pub sum_op : ℕ → Option Op
sum_op a = if a == 43 then Some op.Add else if a == 45 then Some op.Sub else None

abbrev pub prod_op : ℕ → Option Op
prod_op a = if a == 42 then Some op.Mul else None

-- the operator of this level that a word is
abbrev pub grouping : Level → Word → Option Op
grouping level.Or (word.Key key.Or) = Some op.Or
grouping level.And (word.Key key.And) = Some op.And
grouping level.Sum (word.Mark a zero) = sum_op a
grouping level.Prod (word.Mark a zero) = prod_op a
grouping _ _ = None

abbrev pub compared : ℕ → ℕ → Option Op
compared a b =
    if a == 61 && b == 0 then Some op.Eq
    else if a == 60 && b == 62 then Some op.Ne
    else if a == 60 && b == 61 then Some op.Le
    else if a == 60 && b == 0 then Some op.Lt
    else if a == 62 && b == 61 then Some op.Ge
    else if a == 62 && b == 0 then Some op.Gt
    else None

abbrev pub comparison : Word → Option Op
comparison (word.Mark a b) = compared a b
comparison _ = None
