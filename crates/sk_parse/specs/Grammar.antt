-- The rules of expressions. The number is how many more parentheses and NOTs may open together.
use Rattle.std.specs.Prelude.{ℕ, zero, suc, Bool, true, false, if◌then◌else◌, length, Option, Some, None}
use Rattle.sk_lex.specs.declared.token.Keyword.TheVariants as key
use Rattle.sk_lex.specs.declared.token.Word.{Word}
use Rattle.sk_lex.specs.declared.token.Word.TheVariants as word
use Rattle.sk_lex.specs.Marks as mark
use Rattle.sk_rows.specs.declared.expr.Op.{Op}
use Rattle.sk_rows.specs.declared.expr.Expr.{Expr}
use Rattle.sk_rows.specs.declared.expr.Expr.TheVariants as e
use Rattle.sk_parse.specs.declared.cursor.Sign.TheVariants as sign
use Rattle.sk_parse.specs.declared.terms.Level.{Level}
use Rattle.sk_parse.specs.declared.terms.Level.TheVariants as level
use Rattle.sk_parse.specs.Input.{Parser, ◌>>=◌, ◌>>◌, ◌<$>◌, pure, refuse, first, next, sees, expect}
use Rattle.sk_parse.specs.Terms.{name, literal, grouping, comparison}
use Rattle.sk_parse.specs.Limits.{most_nested}

-- the operator at the front
abbrev pub found_by : (Word → Option Op) → Option Word → Option Op
found_by ops None = None
found_by ops (Some w) = ops w

-- behind an operand: an operator and what goes on behind it, or nothing more
abbrev pub more_on : Parser Expr → (Expr → Parser Expr) → Expr → Option Op → Parser Expr
more_on operand go left None = pure left
more_on operand go left (Some o) = λ i. (operand >>= (λ right. go (e.Two o left right))) (next i)

-- { operator operand }, grouped to the left; each turn takes a word
unfoldable pub more : (Word → Option Op) → Parser Expr → ℕ → Expr → Parser Expr
more ops operand zero left = pure left
more ops operand (suc n) left = λ i. more_on operand (more ops operand n) left (found_by ops (first i)) i

-- operand { operator operand }
unfoldable pub chained : (Word → Option Op) → Parser Expr → Parser Expr
chained ops operand = do
  left ← operand
  λ i. more ops operand (length i) left i

-- [ comparison sum ]
abbrev pub compare_on : Parser Expr → Expr → Option Op → Parser Expr
compare_on sum left None = pure left
compare_on sum left (Some o) = λ i. (e.Two o left <$> sum) (next i)

unfoldable pub compared_to : Parser Expr → Expr → Parser Expr
compared_to sum left = λ i. compare_on sum left (found_by comparison (first i)) i

abbrev pub is_column : Option Word → Bool
is_column (Some (word.Name t)) = true
is_column _ = false

unfoldable pub in_parens : Parser Expr → Parser Expr
in_parens expr = do
  expect (sign.Mark mark.open_paren mark.none)
  inner ← expr
  expect (sign.Mark mark.close_paren mark.none)
  pure inner

-- the parser of what stands in parentheses, with these
unfoldable pub atom_over : Parser Expr → Parser Expr
atom_over parens = λ i.
    if sees (sign.Mark mark.open_paren mark.none) i then parens i
    else if is_column (first i) then (e.Col <$> name) i
    else (e.Lit <$> literal) i

abbrev pub sum_over : Parser Expr → Parser Expr
sum_over parens = chained (grouping level.Sum) (chained (grouping level.Prod) (atom_over parens))

unfoldable pub comp_over : Parser Expr → Parser Expr
comp_over parens = sum_over parens >>= compared_to (sum_over parens)

abbrev pub expr_over : Parser Expr → Parser Expr
expr_over neg = chained (grouping level.Or) (chained (grouping level.And) neg)

-- { NOT } comp, with so many more parentheses and NOTs
unfoldable pub neg : ℕ → Parser Expr
neg zero = λ i. if sees (sign.Key key.Not) i then refuse i else comp_over refuse i
neg (suc n) = λ i.
    if sees (sign.Key key.Not) i then (e.Not <$> neg n) (next i)
    else comp_over (in_parens (expr_over (neg n))) i

unfoldable pub parens : ℕ → Parser Expr
parens zero = refuse
parens (suc n) = in_parens (expr_over (neg n))

unfoldable pub negation : ℕ → Parser Expr
negation zero = refuse
negation (suc n) = λ i. (e.Not <$> neg n) (next i)

abbrev pub operand_at : Level → ℕ → Parser Expr
operand_at level.Or n = chained (grouping level.And) (neg n)
operand_at level.And n = neg n
operand_at level.Sum n = chained (grouping level.Prod) (atom_over (parens n))
operand_at level.Prod n = atom_over (parens n)

abbrev pub chain_at : Level → ℕ → Parser Expr
chain_at l n = chained (grouping l) (operand_at l n)

-- as deep as statements allow
abbrev pub expr : Parser Expr
expr = chain_at level.Or most_nested
