-- The rules of statements.
use Rattle.std.specs.Prelude.{◌≤◌, ℕ, ◌+◌, ◌-◌, Bool, true, false, if◌then◌else◌, ◌==◌, List, [], ◌∷◌, length, drop, map, Option, Some, None, Result, Ok, Err}
use Rattle.sk_lex.specs.declared.token.Keyword.{Keyword}
use Rattle.sk_lex.specs.declared.token.Keyword.TheVariants as key
use Rattle.sk_lex.specs.declared.token.Token.{Token}
use Rattle.sk_lex.specs.Marks as mark
use Rattle.sk_rows.specs.declared.expr.Expr.{Expr}
use Rattle.sk_rows.specs.declared.statement.Begun.TheVariants as begun
use Rattle.sk_rows.specs.declared.statement.SetItem.{SetItem}
use Rattle.sk_rows.specs.declared.statement.Statement.{Statement}
use Rattle.sk_rows.specs.declared.statement.Statement.TheVariants as st
use Rattle.sk_parse.specs.declared.cursor.Sign.{Sign}
use Rattle.sk_parse.specs.declared.cursor.Sign.TheVariants as sign
use Rattle.sk_parse.specs.declared.fault.ParseFault.{ParseFault}
use Rattle.sk_parse.specs.declared.fault.ParseFault.TheVariants as fault
use Rattle.sk_parse.specs.Input.{Input, Parser, ◌>>=◌, ◌>>◌, ◌<$>◌, pure, refuse, first, first_key, next, eat, expect, listed}
use Rattle.sk_parse.specs.Terms.{name, literal}
use Rattle.sk_parse.specs.Grammar.{expr}

-- one rule behind this sign, or else another
abbrev pub behind : {A : Type 0} → Sign → Parser A → Parser A → Parser A
behind s p other = do
  found ← eat s
  if found then p else other

-- [ WHERE expr ]
unfoldable pub condition : Parser (Option Expr)
condition = do
  found ← eat (sign.Key key.Where)
  if found then Some <$> expr else pure None

unfoldable pub begin : Parser Statement
begin =
    behind (sign.Key key.Memory) (pure (st.Begin begun.Mem))
    (behind (sign.Key key.Storage) (pure (st.Begin begun.Store))
    (pure (st.Begin begun.Cross)))

unfoldable pub insert : Parser Statement
insert = do
  expect (sign.Key key.Into)
  table ← name
  expect (sign.Key key.Values)
  expect (sign.Mark mark.open_paren mark.none)
  values ← listed literal
  expect (sign.Mark mark.close_paren mark.none)
  pure (st.Insert table values)

unfoldable pub select_list : Parser (Option (List (List ℕ)))
select_list = do
  all ← eat (sign.Mark mark.star mark.none)
  if all then pure None else Some <$> listed name

unfoldable pub select : Parser Statement
select = do
  columns ← select_list
  expect (sign.Key key.From)
  table ← name
  cond ← condition
  pure (st.Select table columns cond)

unfoldable pub set_item : Parser SetItem
set_item = do
  column ← name
  expect (sign.Mark mark.equals mark.none)
  value ← expr
  pure (record { column = column; value = value })

unfoldable pub update : Parser Statement
update = do
  table ← name
  expect (sign.Key key.Set)
  sets ← listed set_item
  cond ← condition
  pure (st.Update table sets cond)

unfoldable pub delete : Parser Statement
delete = do
  expect (sign.Key key.From)
  table ← name
  cond ← condition
  pure (st.Delete table cond)

-- by the keyword at the front
abbrev pub said_by : Option Keyword → Parser Statement
said_by (Some key.Begin) = λ i. begin (next i)
said_by (Some key.Commit) = λ i. Ok (st.Commit, next i)
said_by (Some key.Rollback) = λ i. Ok (st.Rollback, next i)
said_by (Some key.Insert) = λ i. insert (next i)
said_by (Some key.Select) = λ i. select (next i)
said_by (Some key.Update) = λ i. update (next i)
said_by (Some key.Delete) = λ i. delete (next i)
said_by _ = refuse

unfoldable pub said : Parser Statement
said = λ i. said_by (first_key (first i)) i

unfoldable pub whole : Parser Statement
whole = do
  found ← said
  λ i. if length i == 0 then Ok (found, i) else refuse i

-- counted from 1: where the first of so many tokens that are left begins, or behind the end
abbrev pub place_of : ℕ → List Token → ℕ
place_of end [] = end + 1
place_of end (t ∷ ts) = t.from + 1

unfoldable pub place : List Token → ℕ → ℕ → ℕ
place tokens end left = place_of end (drop (length tokens - left) tokens)

-- what the tokens are in a line of so many bytes
abbrev pub answer : (tokens : List Token) → ℕ → Result (Statement × Input) ℕ → Result Statement ParseFault
answer tokens end (Ok r) = Ok r.0
answer tokens end (Err left) = Err (fault.Unexpected (place tokens end left))

unfoldable pub statement : List Token → ℕ → Result Statement ParseFault
statement tokens end = answer tokens end (whole (map (λ t. t.word) tokens))

-- a place is one of the line's, or the one behind its end
abbrev pub IsPlace : ℕ → Result Statement ParseFault → Type 0
IsPlace end (Ok s) = Unit {0}
IsPlace end (Err (fault.Unexpected p)) = (1 ≤ p) × (p ≤ end + 1)
IsPlace end (Err fault.NoMemory) = Unit {0}

-- whether the fault is want of memory
abbrev pub wants_memory : ParseFault → Bool
wants_memory (fault.Unexpected p) = false
wants_memory fault.NoMemory = true
