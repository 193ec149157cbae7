-- A script, from its bytes: they are cut into lines, lines into tokens, and the words of these are read.
use Rattle.std.specs.Prelude.{ℕ, ◌+◌, ◌-◌, Bool, true, false, not, ◌&&◌, ◌||◌, ◌==◌, if◌then◌else◌, nat_lt, List, [], ◌∷◌, ◌++◌, length, take, drop, Option, Some, None, Result, Ok, Err}
use Rattle.std.specs.List.{prefix_len}
use Rattle.std.specs.Str.{bytes_eq}
use Rattle.sk_lex.specs.declared.token.Keyword.TheVariants as key
use Rattle.sk_lex.specs.declared.token.Token.{Token}
use Rattle.sk_lex.specs.declared.token.Word.{Word}
use Rattle.sk_lex.specs.declared.token.Word.TheVariants as word
use Rattle.sk_lex.specs.Front.{Text}
use Rattle.sk_rows.specs.declared.table.Table.{Table}
use Rattle.sk_rows.specs.Text.{is_printable}
use Rattle.sk_parse.specs.declared.fault.ParseFault.{ParseFault}
use Rattle.sk_parse.specs.declared.fault.ParseFault.TheVariants as parse
use Rattle.sk_script.specs.declared.legible.Legible.{Legible}
use Rattle.sk_script.specs.declared.line.Kind.{Kind}
use Rattle.sk_script.specs.declared.line.Kind.TheVariants as kind
use Rattle.sk_script.specs.declared.script.Line.{Line}
use Rattle.sk_script.specs.declared.script.OptionLine.{OptionLine}
use Rattle.sk_script.specs.declared.script.Script.{Script}
use Rattle.sk_script.specs.declared.script.ScriptFault.{ScriptFault}
use Rattle.sk_script.specs.declared.script.ScriptFault.TheVariants as fault
use Rattle.sk_script.specs.declared.script.ScriptLine.{ScriptLine}
use Rattle.sk_script.specs.Body.{body, rest_of}
use Rattle.sk_script.specs.Header.{table_line}
use Rattle.sk_script.specs.Legible.{capped, legible}
use Rattle.sk_script.specs.Limits.{longest_script}
use Rattle.sk_script.specs.Options.{option_line}

-- ---- one line

-- empty, or spaces alone, or a comment behind them
abbrev pub is_passed_over : Text → Bool
is_passed_over [] = true
is_passed_over (b ∷ z) = if b == 32 then is_passed_over z else b == 35

-- how many bytes from the front a script may hold, of those that a line may have
abbrev pub good_len : Text → ℕ
good_len line = capped (prefix_len is_printable line)

-- the script goes on as it is behind a line that it passes over
unfoldable pub passed : Bool → Script → Text → Result Script ParseFault
passed long script line = if long || nat_lt (good_len line) (length line) then Err (parse.Unexpected (good_len line + 1)) else Ok script

-- what a line does by its first word
abbrev pub kind_by : Word → Kind
kind_by (word.Key key.Table) = kind.Table
kind_by (word.Key key.Set) = kind.Option
kind_by _ = kind.Body

-- a line makes a table, sets an option or says something; behind one that says something each does
abbrev pub kind_of : List ScriptLine → List Token → Kind
kind_of [] (t ∷ ts) = kind_by t.word
kind_of _ _ = kind.Body

-- the fault behind the front of a line, if there is one
abbrev pub behind : Legible → Result (Unit {0}) ParseFault
behind front = if front.spoilt then Err (parse.Unexpected (front.end + 1)) else Ok tt

abbrev pub and_then : {A B : Type 0} → Result A ParseFault → (A → Result B ParseFault) → Result B ParseFault
and_then (Ok x) f = f x
and_then (Err e) f = Err e

abbrev pub table_added : Script → ℕ → Table → Script
table_added script n table = record { tables = script.tables ++ record { line = n; table = table } ∷ []; options = script.options; lines = script.lines }

abbrev pub option_added : Script → OptionLine → Script
option_added script o = record { tables = script.tables; options = script.options ++ o ∷ []; lines = script.lines }

abbrev pub line_added : Script → ℕ → Line → Script
line_added script n what = record { tables = script.tables; options = script.options; lines = script.lines ++ record { line = n; what = what } ∷ [] }

unfoldable pub with_table : Script → ℕ → Legible → Result Script ParseFault
with_table script n front =
    and_then (table_line script.tables front.tokens front.end) (λ table.
    and_then (behind front) (λ _. Ok (table_added script n table)))

unfoldable pub with_option : Script → ℕ → Legible → Result Script ParseFault
with_option script n front =
    and_then (option_line script.options n (rest_of front.tokens) front.end) (λ o.
    and_then (behind front) (λ _. Ok (option_added script o)))

unfoldable pub with_body : Script → ℕ → Legible → Result Script ParseFault
with_body script n front =
    and_then (body front.tokens front.end) (λ what.
    and_then (behind front) (λ _. Ok (line_added script n what)))

abbrev pub by_kind : Kind → Script → ℕ → Legible → Result Script ParseFault
by_kind kind.Table script n front = with_table script n front
by_kind kind.Option script n front = with_option script n front
by_kind kind.Body script n front = with_body script n front

abbrev pub with_front : Script → ℕ → Legible → Result Script ParseFault
with_front script n front = by_kind (kind_of script.lines front.tokens) script n front

-- The script with the line of this number, or the line's first fault. Its front is read as if the line ended there,
-- so a fault before the byte that may not stand there comes first.
unfoldable pub with_line : Bool → Script → ℕ → Text → Result Script ParseFault
with_line long script n line = if is_passed_over line then passed long script line else with_front script n (legible long line)

-- ---- the lines

-- the bytes cut at each line end; the last piece is what stands behind the last of them
abbrev pub onto : ℕ → List Text → List Text
onto b [] = (b ∷ []) ∷ []
onto b (piece ∷ pieces) = (b ∷ piece) ∷ pieces

abbrev pub pieces : Text → List Text
pieces [] = [] ∷ []
pieces (b ∷ bs) = if b == 10 then [] ∷ pieces bs else onto b (pieces bs)

-- the byte does not end a line
abbrev pub goes_on : ℕ → Bool
goes_on b = not (b == 10)

-- what stands before a text that the bytes end with
unfoldable pub before : Text → Text → Option Text
before text bytes =
    if bytes_eq (drop (length bytes - length text) bytes) text then Some (take (length bytes - length text) bytes) else None

abbrev pub or_else : Option Text → Text → Text
or_else (Some z) other = z
or_else None other = other

-- a return right before the end of a line belongs to it
abbrev pub without_return : Text → Text
without_return line = or_else (before (13 ∷ []) line) line

abbrev pub at : ℕ → ParseFault → ScriptFault
at n (parse.Unexpected place) = fault.At n place
at n parse.NoMemory = fault.NoMemory

abbrev pub gone_on : ℕ → Result Script ParseFault → (Script → Result Script ScriptFault) → Result Script ScriptFault
gone_on n (Ok script) rest = rest script
gone_on n (Err e) rest = Err (at n e)

abbrev pub is_nil : Text → Bool
is_nil [] = true
is_nil (b ∷ bs) = false

-- what stands behind the last line end is a line where there is something, be it only that the bytes were too long
unfoldable pub with_last : Bool → Script → ℕ → Text → Result Script ScriptFault
with_last long script n piece = if is_nil piece && not long then Ok script else gone_on n (with_line long script n piece) (λ next. Ok next)

-- The script that goes on with these pieces, or its first fault, where n is the next line's number.
abbrev pub read_from : Bool → Script → ℕ → List Text → Result Script ScriptFault
read_from long script n [] = Ok script
read_from long script n (piece ∷ []) = with_last long script n piece
read_from long script n (piece ∷ next ∷ more) =
    gone_on n (with_line false script n (without_return piece)) (λ after. read_from long after (n + 1) (next ∷ more))

abbrev pub nothing : Script
nothing = record { tables = []; options = []; lines = [] }

-- The script that the bytes are, or its first fault. What stands past the limit of scripts is not looked at.
unfoldable pub script_of : Text → Result Script ScriptFault
script_of bytes = read_from (nat_lt longest_script (length bytes)) nothing 1 (pieces (take longest_script bytes))

-- memory was wanted
abbrev pub wants : ScriptFault → Bool
wants fault.NoMemory = true
wants (fault.At line place) = false
