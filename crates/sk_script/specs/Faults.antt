-- The first fault of a script: its line is the first that has one, and in that line all before its place fits.
use Rattle.std.specs.Prelude.{◌≡◌, ◌↔◌, ◌<◌, ℕ, ◌+◌, Bool, true, false, nat_lt, List, [], ◌∷◌, ◌++◌, length, map, take, Option, Some, None, Result, Ok, Err, ◌⊎◌}
use Rattle.std.specs.List.{list_all}
use Rattle.sk_lex.specs.declared.token.Keyword.TheVariants as key
use Rattle.sk_lex.specs.declared.token.Token.{Token}
use Rattle.sk_lex.specs.declared.token.Word.{Word}
use Rattle.sk_lex.specs.declared.token.Word.TheVariants as word
use Rattle.sk_lex.specs.Front.{Text}
use Rattle.sk_lex.specs.Marks as mark
use Rattle.sk_rows.specs.declared.table.Column.{Column}
use Rattle.sk_rows.specs.declared.table.Table.{Table}
use Rattle.sk_rows.specs.declared.value.Sort.TheVariants as sorts
use Rattle.sk_rows.specs.Catalog.{add_fault}
use Rattle.sk_parse.specs.Places.{IsFirstFault, words}
use Rattle.sk_parse.specs.Statements.{place_of}
use Rattle.sk_script.specs.declared.line.Kind.TheVariants as kind
use Rattle.sk_script.specs.declared.script.Line.{Line}
use Rattle.sk_script.specs.declared.script.OptionLine.{OptionLine}
use Rattle.sk_script.specs.declared.script.Script.{Script}
use Rattle.sk_script.specs.declared.script.ScriptFault.{ScriptFault}
use Rattle.sk_script.specs.declared.script.ScriptFault.TheVariants as fault
use Rattle.sk_script.specs.declared.script.TableLine.{TableLine}
use Rattle.sk_script.specs.Body.{begins_step, command_of, goes_on, rest_of, session_of}
use Rattle.sk_script.specs.Header.{engine_of, is_bool_key, new_column, new_table, sort_of}
use Rattle.sk_script.specs.Legible.{legible}
use Rattle.sk_script.specs.Limits.{longest_script}
use Rattle.sk_script.specs.Options.{MaySet, new_option, number_of}
use Rattle.sk_script.specs.Rules.{IsBody, IsSaid, IsScript, IsSet, IsTable, Makes}
use Rattle.sk_script.specs.Script.{good_len, is_passed_over, kind_of, pieces, script_of, without_return}

-- no token follows, or one whose word is none of these
abbrev pub Misses : {A : Type 0} → (Word → Option A) → List Token → Type 0
Misses f [] = Unit {0}
Misses f (t ∷ ts) = f t.word ≡ None

abbrev pub IsNoMark : ℕ → List Token → Type 0
IsNoMark byte [] = Unit {0}
IsNoMark byte (t ∷ ts) = ¬ (t.word ≡ word.Mark byte mark.none)

-- ---- lines that make tables

-- two tokens are one more column behind these
abbrev pub IsColumnAt : List Column → Token → Token → Column → Type 0
IsColumnAt cs t u c = (new_column cs t.word ≡ Some c.name) × (sort_of u.word ≡ Some c.sort) × (is_bool_key cs c.sort ≡ false)

-- Where the tokens from a column's name on are at fault, behind these columns.
pub data ColumnFault (end : ℕ) : List Column → List Token → ℕ → Type 0 where
  -- no name, the name of a column before it, or one column too many
  name : (cs : List Column) (ts : List Token) → Misses (new_column cs) ts → ColumnFault end cs ts (place_of end ts)
  sort : (cs : List Column) (t : Token) (ts : List Token) (name : List ℕ) → new_column cs t.word ≡ Some name → Misses sort_of ts → ColumnFault end cs (t ∷ ts) (place_of end ts)
  -- a key of sort Bool is at fault at its name
  bool_key : (t u : Token) (ts : List Token) (name : List ℕ) → new_column [] t.word ≡ Some name → sort_of u.word ≡ Some sorts.Bool → ColumnFault end [] (t ∷ u ∷ ts) (t.from + 1)
  -- neither a comma nor the end
  behind : (cs : List Column) (t u v : Token) (ts : List Token) (c : Column) → IsColumnAt cs t u c → ¬ (v.word ≡ word.Mark mark.comma mark.none) → ColumnFault end cs (t ∷ u ∷ v ∷ ts) (v.from + 1)
  later : (cs : List Column) (t u v : Token) (ts : List Token) (c : Column) (place : ℕ) → IsColumnAt cs t u c → v.word ≡ word.Mark mark.comma mark.none → ColumnFault end (cs ++ c ∷ []) ts place
      → ColumnFault end cs (t ∷ u ∷ v ∷ ts) place

-- Where the tokens behind TABLE are at fault.
pub data TableFault (tables : List TableLine) (end : ℕ) : List Token → ℕ → Type 0 where
  -- no name, the name of a table before it, or one table too many
  name : (ts : List Token) → Misses (new_table tables) ts → TableFault tables end ts (place_of end ts)
  engine : (t : Token) (ts : List Token) (name : List ℕ) → new_table tables t.word ≡ Some name → Misses engine_of ts → TableFault tables end (t ∷ ts) (place_of end ts)
  columns : (t u : Token) (ts : List Token) (name : List ℕ) (store : Bool) (place : ℕ) → new_table tables t.word ≡ Some name → engine_of u.word ≡ Some store → ColumnFault end [] ts place
      → TableFault tables end (t ∷ u ∷ ts) place

-- ---- lines that set an option

-- Where the tokens behind SET are at fault.
pub data OptionFault (options : List OptionLine) (end : ℕ) : List Token → ℕ → Type 0 where
  -- no option, or one that a line before it sets
  name : (ts : List Token) → Misses (new_option options) ts → OptionFault options end ts (place_of end ts)
  -- no number, or one out of the option's range
  number : (t : Token) (ts : List Token) (name : List ℕ) → new_option options t.word ≡ Some name → Misses (number_of name) ts → OptionFault options end (t ∷ ts) (place_of end ts)
  behind : (t u v : Token) (ts : List Token) (name : List ℕ) (k : ℕ) → new_option options t.word ≡ Some name → number_of name u.word ≡ Some k → OptionFault options end (t ∷ u ∷ v ∷ ts) (v.from + 1)

-- ---- lines that say something

-- Where the tokens of what a session says are at fault. Nothing stands behind STEP, and a statement's own fault is its first
-- by its grammar.
pub data SaidFault (end : ℕ) : List Token → ℕ → Type 0 where
  step : (t v : Token) (ts : List Token) → t.word ≡ word.Key key.Step → SaidFault end (t ∷ v ∷ ts) (v.from + 1)
  statement : (ts : List Token) (place : ℕ) → begins_step ts ≡ false → IsFirstFault ts end place → SaidFault end ts place

-- Where the tokens of a line that says something are at fault.
pub data BodyFault (end : ℕ) : List Token → ℕ → Type 0 where
  -- neither a session nor FLUSH nor STOP
  first : (ts : List Token) → Misses command_of ts → Misses session_of ts → BodyFault end ts (place_of end ts)
  -- nothing stands behind FLUSH and STOP
  command : (t v : Token) (ts : List Token) (what : Line) → command_of t.word ≡ Some what → BodyFault end (t ∷ v ∷ ts) (v.from + 1)
  colon : (t : Token) (ts : List Token) (n : ℕ) → session_of t.word ≡ Some n → IsNoMark mark.colon ts → BodyFault end (t ∷ ts) (place_of end ts)
  plain : (t c : Token) (ts : List Token) (n place : ℕ) → session_of t.word ≡ Some n → c.word ≡ word.Mark mark.colon mark.none → list_all goes_on ts ≡ true → SaidFault end ts place
      → BodyFault end (t ∷ c ∷ ts) place
  -- what is said ends where the first semicolon stands
  closed : (t c : Token) (us : List Token) (m : Token) (ts : List Token) (n place : ℕ) → session_of t.word ≡ Some n → c.word ≡ word.Mark mark.colon mark.none → list_all goes_on us ≡ true → m.word ≡ word.Mark mark.semicolon mark.none
      → SaidFault m.from us place → BodyFault end (t ∷ c ∷ us ++ m ∷ ts) place
  behind : (t c : Token) (us : List Token) (m v : Token) (ts : List Token) (n : ℕ) (what : Line) → session_of t.word ≡ Some n → c.word ≡ word.Mark mark.colon mark.none → m.word ≡ word.Mark mark.semicolon mark.none → IsSaid n (words us) what
      → BodyFault end (t ∷ c ∷ us ++ m ∷ v ∷ ts) (v.from + 1)

-- ---- one line

-- Where a line is at fault behind this script. The flag: a byte stands behind it which may not stand there. The fault
-- is in what can be read of the line, or, where that fits, at the first byte that may not stand there.
pub data LineFault (before : Script) (long : Bool) (line : Text) : ℕ → Type 0 where
  passed : is_passed_over line ≡ true → (long ≡ true) ⊎ (good_len line < length line) → LineFault before long line (good_len line + 1)
  table : (place : ℕ) → is_passed_over line ≡ false → kind_of before.lines (legible long line).tokens ≡ kind.Table
      → TableFault before.tables (legible long line).end (rest_of (legible long line).tokens) place → LineFault before long line place
  option : (place : ℕ) → is_passed_over line ≡ false → kind_of before.lines (legible long line).tokens ≡ kind.Option
      → OptionFault before.options (legible long line).end (rest_of (legible long line).tokens) place → LineFault before long line place
  body : (place : ℕ) → is_passed_over line ≡ false → kind_of before.lines (legible long line).tokens ≡ kind.Body
      → BodyFault (legible long line).end (legible long line).tokens place → LineFault before long line place
  spoilt_table : (t : Table) → is_passed_over line ≡ false → before.lines ≡ [] → IsTable (words (legible long line).tokens) t → add_fault (map (λ l. l.table) before.tables) t ≡ None
      → (legible long line).spoilt ≡ true → LineFault before long line ((legible long line).end + 1)
  spoilt_option : (name : List ℕ) (k : ℕ) → is_passed_over line ≡ false → before.lines ≡ [] → IsSet (words (legible long line).tokens) name k → MaySet before.options name k
      → (legible long line).spoilt ≡ true → LineFault before long line ((legible long line).end + 1)
  spoilt_body : (what : Line) → is_passed_over line ≡ false → IsBody (words (legible long line).tokens) what → (legible long line).spoilt ≡ true
      → LineFault before long line ((legible long line).end + 1)

-- ---- a script

-- the line that a piece is, where these stand behind it
abbrev pub line_of : Text → List Text → Text
line_of piece [] = piece
line_of piece (next ∷ more) = without_return piece

-- the last line alone has what stands past the limit of scripts behind it
abbrev pub is_cut : Bool → List Text → Bool
is_cut long [] = long
is_cut long (next ∷ more) = false

-- The lines before this one make a script, and in the line, behind that script, this is the place of the fault.
pub record IsFirstFaultAt (bytes : Text) (n place : ℕ) : Type 0 where
  pub before : List Text
  pub piece : Text
  pub behind : List Text
  pub cut : pieces (take longest_script bytes) ≡ before ++ piece ∷ behind
  pub number : n ≡ 1 + length before
  pub script : Script
  pub made : Makes (map without_return before) script
  pub fault : LineFault script (is_cut (nat_lt longest_script (length bytes)) behind) (line_of piece behind) place

-- What came back for the bytes: they are that script; or they are none, and the fault is their first.
abbrev pub IsAnswer : Text → Result Script ScriptFault → Type 0
IsAnswer bytes (Ok script) = IsScript bytes script
IsAnswer bytes (Err (fault.At n place)) = ((script : Script) → ¬ IsScript bytes script) × IsFirstFaultAt bytes n place
IsAnswer bytes (Err fault.NoMemory) = Unit {0}

-- Bytes have this first fault by the rules exactly where it is the one that is read.
abbrev pub IsPlaced : Type 0
IsPlaced = (bytes : Text) (n place : ℕ) → IsFirstFaultAt bytes n place ↔ (script_of bytes ≡ Err (fault.At n place))
