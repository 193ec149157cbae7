-- Lines that say something: a session's number, a colon, STEP or a statement, and at will a semicolon; or FLUSH or STOP alone.
use Rattle.std.specs.Prelude.{ℕ, ◌+◌, Bool, true, false, not, ◌&&◌, ◌==◌, nat_le, if◌then◌else◌, List, [], ◌∷◌, take, drop, Option, Some, None, Result, Ok, Err}
use Rattle.std.specs.List.{prefix_len}
use Rattle.sk_lex.specs.declared.token.Keyword.TheVariants as key
use Rattle.sk_lex.specs.declared.token.Token.{Token}
use Rattle.sk_lex.specs.declared.token.Word.{Word}
use Rattle.sk_lex.specs.declared.token.Word.TheVariants as word
use Rattle.sk_lex.specs.Marks as mark
use Rattle.sk_rows.specs.declared.statement.Statement.{Statement}
use Rattle.sk_parse.specs.declared.fault.ParseFault.{ParseFault}
use Rattle.sk_parse.specs.declared.fault.ParseFault.TheVariants as parse
use Rattle.sk_parse.specs.Statements.{place_of, statement}
use Rattle.sk_script.specs.declared.script.Line.{Line}
use Rattle.sk_script.specs.declared.script.Line.TheVariants as line
use Rattle.sk_script.specs.Limits.{most_sessions}

-- the first of the tokens does not fit, or there is none
abbrev pub misfit : {A : Type 0} → List Token → ℕ → Result A ParseFault
misfit tokens end = Err (parse.Unexpected (place_of end tokens))

-- the session that a word names
abbrev pub session_of : Word → Option ℕ
session_of (word.Number n) = if nat_le 1 n && nat_le n most_sessions then Some n else None
session_of _ = None

abbrev pub is_mark : ℕ → Word → Bool
is_mark byte (word.Mark a b) = a == byte && b == 0
is_mark byte _ = false

abbrev pub is_step : Word → Bool
is_step (word.Key key.Step) = true
is_step _ = false

-- what a line says by its first word, where it is of no session
abbrev pub command_of : Word → Option Line
command_of (word.Key key.Flush) = Some line.Flush
command_of (word.Key key.Stop) = Some line.Stop
command_of _ = None

-- no semicolon
abbrev pub goes_on : Token → Bool
goes_on t = not (is_mark mark.semicolon t.word)

-- the first word is STEP
abbrev pub begins_step : List Token → Bool
begins_step [] = false
begins_step (t ∷ ts) = is_step t.word

-- nothing is left behind what was found
abbrev pub alone : Result Line ParseFault → List Token → Result Line ParseFault
alone (Ok what) [] = Ok what
alone (Ok what) (t ∷ ts) = Err (parse.Unexpected (t.from + 1))
alone (Err f) rest = Err f

abbrev pub rest_of : List Token → List Token
rest_of [] = []
rest_of (t ∷ ts) = ts

abbrev pub says : ℕ → Result Statement ParseFault → Result Line ParseFault
says session (Ok s) = Ok (line.Says session s)
says session (Err f) = Err f

-- STEP stands alone; all other words are a statement
unfoldable pub phrase : ℕ → List Token → ℕ → Result Line ParseFault
phrase session tokens end =
    if begins_step tokens then alone (Ok (line.Step session)) (rest_of tokens)
    else says session (statement tokens end)

-- what is said before a semicolon, and what stands behind that
unfoldable pub closed : ℕ → List Token → ℕ → List Token → Result Line ParseFault
closed session tokens end rest = alone (phrase session tokens end) rest

abbrev pub said_by : ℕ → List Token → ℕ → List Token → Result Line ParseFault
said_by session before end [] = phrase session before end
said_by session before end (mark ∷ rest) = closed session before mark.from rest

-- No statement has a semicolon, so the tokens before the first are what is said.
unfoldable pub said : ℕ → List Token → ℕ → Result Line ParseFault
said session tokens end = said_by session (take (prefix_len goes_on tokens) tokens) end (drop (prefix_len goes_on tokens) tokens)

abbrev pub behind_session : ℕ → List Token → ℕ → Result Line ParseFault
behind_session session [] end = misfit [] end
behind_session session (t ∷ ts) end = if is_mark mark.colon t.word then said session ts end else misfit (t ∷ ts) end

abbrev pub by_session : Option ℕ → Token → List Token → ℕ → Result Line ParseFault
by_session (Some session) t ts end = behind_session session ts end
by_session None t ts end = misfit (t ∷ ts) end

abbrev pub by_command : Option Line → Token → List Token → ℕ → Result Line ParseFault
by_command (Some what) t ts end = alone (Ok what) ts
by_command None t ts end = by_session (session_of t.word) t ts end

-- what a line says
unfoldable pub body : List Token → ℕ → Result Line ParseFault
body [] end = misfit [] end
body (t ∷ ts) end = by_command (command_of t.word) t ts end
