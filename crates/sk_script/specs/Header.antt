-- Lines that make tables. Parsers are those of statements: they take words, and fail with how many are left.
use Rattle.std.specs.Prelude.{ℕ, zero, suc, ◌-◌, Bool, true, false, not, ◌&&◌, ◌==◌, if◌then◌else◌, nat_lt, List, [], ◌∷◌, ◌++◌, length, drop, map, Option, Some, None, Result, Ok, Err}
use Rattle.std.specs.List.{list_any}
use Rattle.std.specs.Str.{bytes_eq}
use Rattle.sk_lex.specs.declared.token.Keyword.TheVariants as key
use Rattle.sk_lex.specs.declared.token.Token.{Token}
use Rattle.sk_lex.specs.declared.token.Word.{Word}
use Rattle.sk_lex.specs.declared.token.Word.TheVariants as word
use Rattle.sk_lex.specs.Marks as mark
use Rattle.sk_rows.specs.declared.table.Column.{Column}
use Rattle.sk_rows.specs.declared.table.Table.{Table}
use Rattle.sk_rows.specs.declared.value.Sort.{Sort}
use Rattle.sk_rows.specs.declared.value.Sort.TheVariants as sorts
use Rattle.sk_rows.specs.Catalog.{has_column}
use Rattle.sk_rows.specs.Names.{is_name}
use Rattle.sk_parse.specs.declared.fault.ParseFault.{ParseFault}
use Rattle.sk_parse.specs.declared.fault.ParseFault.TheVariants as parse
use Rattle.sk_parse.specs.declared.cursor.Sign.TheVariants as sign
use Rattle.sk_parse.specs.Input.{Outcome, Parser, ◌>>=◌, eat, pure, refuse, next, taken}
use Rattle.sk_parse.specs.Statements.{place_of}
use Rattle.sk_script.specs.declared.script.TableLine.{TableLine}
use Rattle.sk_rows.specs.Limits.{most_columns, most_tables}

-- some table has this name
abbrev pub has_table : List ℕ → List TableLine → Bool
has_table name = list_any (λ t. bytes_eq t.table.name name)

-- a name that none of the tables has, where there may be one more
abbrev pub new_table : List TableLine → Word → Option (List ℕ)
new_table tables (word.Name t) = if is_name t && nat_lt (length tables) most_tables && not (has_table t tables) then Some t else None
new_table tables _ = None

unfoldable pub table_name : List TableLine → Parser (List ℕ)
table_name tables = taken (new_table tables)

-- whether the storage engine keeps the table
abbrev pub engine_of : Word → Option Bool
engine_of (word.Key key.Memory) = Some false
engine_of (word.Key key.Storage) = Some true
engine_of _ = None

unfoldable pub engine : Parser Bool
engine = taken engine_of

-- a name that none of the columns has, where there may be one more
abbrev pub new_column : List Column → Word → Option (List ℕ)
new_column columns (word.Name t) = if is_name t && nat_lt (length columns) most_columns && not (has_column t columns) then Some t else None
new_column columns _ = None

unfoldable pub column_name : List Column → Parser (List ℕ)
column_name columns = taken (new_column columns)

abbrev pub sort_of : Word → Option Sort
sort_of (word.Key key.Int) = Some sorts.Int
sort_of (word.Key key.Text) = Some sorts.Text
sort_of (word.Key key.Bool) = Some sorts.Bool
sort_of _ = None

unfoldable pub sort : Parser Sort
sort = taken sort_of

-- a column behind these would be a key of sort Bool
abbrev pub is_bool_key : List Column → Sort → Bool
is_bool_key [] sorts.Bool = true
is_bool_key _ _ = false

abbrev pub named : List ℕ → Sort → Column
named name s = record { name = name; sort = s }

-- one more column behind these; a key of sort Bool is refused at its name
unfoldable pub column : List Column → Parser Column
column columns = λ i. (do
  name ← column_name columns
  s ← sort
  if is_bool_key columns s then (λ rest. refuse i) else pure (named name s)) i

-- each turn takes a word, so as many turns as there are words are enough
unfoldable pub columns_from : ℕ → List Column → Parser (List Column)
columns_from zero found = pure found
columns_from (suc n) found = do
  more ← eat (sign.Mark mark.comma mark.none)
  if more then (do c ← column found; columns_from n (found ++ c ∷ [])) else pure found

-- one or more columns, with commas between
unfoldable pub columns : Parser (List Column)
columns = do
  c ← column []
  λ i. columns_from (length i) (c ∷ []) i

abbrev pub made : List ℕ → Bool → List Column → Table
made name store cs = record { name = name; store = store; columns = cs }

-- nothing is left
abbrev pub ended : {A : Type 0} → A → Parser A
ended x = λ i. if length i == 0 then Ok (x, i) else refuse i

-- what stands behind the word TABLE
unfoldable pub table : List TableLine → Parser Table
table tables = do
  name ← table_name tables
  store ← engine
  cs ← columns
  ended (made name store cs)

-- counted from 1: where the first of so many tokens that are left begins, or behind the end
unfoldable pub place : List Token → ℕ → ℕ → ℕ
place tokens end left = place_of end (drop (length tokens - left) tokens)

-- what the tokens are in a line of so many bytes
abbrev pub answer : {A : Type 0} → List Token → ℕ → Outcome A → Result A ParseFault
answer tokens end (Ok r) = Ok r.0
answer tokens end (Err left) = Err (parse.Unexpected (place tokens end left))

-- the table of a line whose first word is TABLE
unfoldable pub table_line : List TableLine → List Token → ℕ → Result Table ParseFault
table_line tables tokens end = answer tokens end (table tables (next (map (λ t. t.word) tokens)))
