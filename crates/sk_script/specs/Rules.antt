-- The grammar of scripts as rules, apart from any reader: which bytes are which script.
use Rattle.std.specs.Prelude.{◌≡◌, ◌↔◌, ◌≤◌, ℕ, ◌+◌, Bool, true, false, List, [], ◌∷◌, ◌++◌, length, map, Option, Some, None, Ok}
use Rattle.std.specs.List.{list_all}
use Rattle.sk_lex.specs.declared.token.Keyword.{Keyword}
use Rattle.sk_lex.specs.declared.token.Keyword.TheVariants as key
use Rattle.sk_lex.specs.declared.token.Token.{Token}
use Rattle.sk_lex.specs.declared.token.Word.{Word}
use Rattle.sk_lex.specs.declared.token.Word.TheVariants as word
use Rattle.sk_lex.specs.Front.{Text}
use Rattle.sk_lex.specs.Scanning.{tokens}
use Rattle.sk_lex.specs.Marks as mark
use Rattle.sk_rows.specs.declared.statement.Statement.{Statement}
use Rattle.sk_rows.specs.declared.table.Column.{Column}
use Rattle.sk_rows.specs.declared.table.Table.{Table}
use Rattle.sk_rows.specs.declared.value.Sort.{Sort}
use Rattle.sk_rows.specs.declared.value.Sort.TheVariants as sorts
use Rattle.sk_rows.specs.Text.{are_printable}
use Rattle.sk_parse.specs.Places.{words}
use Rattle.sk_parse.specs.Saying.{AreListed, Says}
use Rattle.sk_script.specs.declared.script.Line.{Line}
use Rattle.sk_script.specs.declared.script.Line.TheVariants as line
use Rattle.sk_script.specs.declared.script.OptionLine.{OptionLine}
use Rattle.sk_script.specs.declared.script.Script.{Script}
use Rattle.sk_script.specs.declared.script.ScriptLine.{ScriptLine}
use Rattle.sk_script.specs.declared.script.TableLine.{TableLine}
use Rattle.sk_script.specs.Limits.{longest_line, longest_script, most_sessions}
use Rattle.sk_script.specs.Options.{CanSet}
use Rattle.sk_script.specs.Script.{goes_on, is_passed_over, script_of, without_return}
use Rattle.sk_script.specs.Tables.{CanAdd}

-- ---- the words of a line

abbrev pub engine_key : Bool → Keyword
engine_key false = key.Memory
engine_key true = key.Storage

abbrev pub sort_key : Sort → Keyword
sort_key sorts.Int = key.Int
sort_key sorts.Text = key.Text
sort_key sorts.Bool = key.Bool

-- column = name ( "INT" | "TEXT" | "BOOL" )
abbrev pub IsColumn : List Word → Column → Type 0
IsColumn ws c = ws ≡ word.Name c.name ∷ word.Key (sort_key c.sort) ∷ []

-- "TABLE" name ( "MEMORY" | "STORAGE" ) column { "," column }
abbrev pub IsTable : List Word → Table → Type 0
IsTable ws t = (us : List Word) × (ws ≡ word.Key key.Table ∷ word.Name t.name ∷ word.Key (engine_key t.store) ∷ us) × AreListed IsColumn us t.columns

-- "SET" option number
abbrev pub IsSet : List Word → List ℕ → ℕ → Type 0
IsSet ws name k = ws ≡ word.Key key.Set ∷ word.Name name ∷ word.Number k ∷ []

-- sessions are numbered from 1
abbrev pub IsSession : ℕ → Type 0
IsSession n = (1 ≤ n) × (n ≤ most_sessions)

-- the session whose line it is, if it is one of a session
abbrev pub session_in : Line → Option ℕ
session_in (line.Says n s) = Some n
session_in (line.Step n) = Some n
session_in line.Flush = None
session_in line.Stop = None

-- "STEP" | statement
pub data IsSaid (n : ℕ) : List Word → Line → Type 0 where
  step : IsSaid n (word.Key key.Step ∷ []) (line.Step n)
  statement : (us : List Word) (s : Statement) → Says us s → IsSaid n us (line.Says n s)

-- number ":" said [ ";" ] | "FLUSH" | "STOP"
pub data IsBody : List Word → Line → Type 0 where
  plain : (n : ℕ) (us : List Word) (what : Line) → IsSession n → IsSaid n us what → IsBody (word.Number n ∷ word.Mark mark.colon mark.none ∷ us) what
  closed : (n : ℕ) (us : List Word) (what : Line) → IsSession n → IsSaid n us what → IsBody (word.Number n ∷ word.Mark mark.colon mark.none ∷ us ++ word.Mark mark.semicolon mark.none ∷ []) what
  flush : IsBody (word.Key key.Flush ∷ []) line.Flush
  stop : IsBody (word.Key key.Stop ∷ []) line.Stop

-- ---- lines

-- a line that is passed over: empty, spaces alone, or a comment, of bytes that may stand in a script
pub record IsPassed (line : Text) : Type 0 where
  pub short : length line ≤ longest_line
  pub empty : is_passed_over line ≡ true
  pub printable : are_printable line ≡ true

-- a line of these words, of bytes that may stand in a script
pub record HasWords (line : Text) (ws : List Word) : Type 0 where
  pub short : length line ≤ longest_line
  pub printable : are_printable line ≡ true
  pub found : List Token
  pub cut : tokens line ≡ Ok found
  pub words : words found ≡ ws

-- { header }: lines from this number on that make tables and set options, or are passed over
pub data AreHeaders : ℕ → List Text → List TableLine → List OptionLine → Type 0 where
  none : (n : ℕ) → AreHeaders n [] [] []
  passed : (n : ℕ) (line : Text) (lines : List Text) (tables : List TableLine) (options : List OptionLine) → IsPassed line → AreHeaders (n + 1) lines tables options
      → AreHeaders n (line ∷ lines) tables options
  table : (n : ℕ) (line : Text) (lines : List Text) (tables : List TableLine) (options : List OptionLine) (ws : List Word) (t : Table) → HasWords line ws → IsTable ws t
      → AreHeaders (n + 1) lines tables options → AreHeaders n (line ∷ lines) (record { line = n; table = t } ∷ tables) options
  option : (n : ℕ) (line : Text) (lines : List Text) (tables : List TableLine) (options : List OptionLine) (ws : List Word) (name : List ℕ) (k : ℕ) → HasWords line ws → IsSet ws name k
      → AreHeaders (n + 1) lines tables options → AreHeaders n (line ∷ lines) tables (record { line = n; name = name; number = k } ∷ options)

-- { body }: lines from this number on that say something, or are passed over
pub data AreBodies : ℕ → List Text → List ScriptLine → Type 0 where
  none : (n : ℕ) → AreBodies n [] []
  passed : (n : ℕ) (line : Text) (lines : List Text) (said : List ScriptLine) → IsPassed line → AreBodies (n + 1) lines said → AreBodies n (line ∷ lines) said
  body : (n : ℕ) (line : Text) (lines : List Text) (said : List ScriptLine) (ws : List Word) (what : Line) → HasWords line ws → IsBody ws what → AreBodies (n + 1) lines said
      → AreBodies n (line ∷ lines) (record { line = n; what = what } ∷ said)

-- ---- the bytes

-- no byte ends a line
abbrev pub IsOpen : Text → Type 0
IsOpen bytes = list_all goes_on bytes ≡ true

-- The bytes are these lines. Each is ended by byte 10, and a 13 right before that is dropped; the last may lack its end.
pub data AreLines : Text → List Text → Type 0 where
  none : AreLines [] []
  last : (b : ℕ) (line : Text) → IsOpen (b ∷ line) → AreLines (b ∷ line) ((b ∷ line) ∷ [])
  ended : (line rest : Text) (lines : List Text) → IsOpen line → AreLines rest lines → AreLines (line ++ 10 ∷ rest) (without_return line ∷ lines)

-- script = { header } { body }; a catalog takes the tables, and each option may be set, one after another
pub record Makes (lines : List Text) (script : Script) : Type 0 where
  pub headers : List Text
  pub bodies : List Text
  pub split : lines ≡ headers ++ bodies
  pub made : AreHeaders 1 headers script.tables script.options
  pub taken : CanAdd [] (map (λ l. l.table) script.tables)
  pub set : CanSet [] script.options
  pub said : AreBodies (1 + length headers) bodies script.lines

-- a script is no longer than its limit
pub record IsScript (bytes : Text) (script : Script) : Type 0 where
  pub short : length bytes ≤ longest_script
  pub lines : List Text
  pub cut : AreLines bytes lines
  pub made : Makes lines script

-- Bytes are a script by the rules exactly where they are read as it.
abbrev pub IsGrammar : Type 0
IsGrammar = (bytes : Text) (script : Script) → IsScript bytes script ↔ (script_of bytes ≡ Ok script)

-- no bytes are two scripts
abbrev pub IsAlone : Type 0
IsAlone = (bytes : Text) (s t : Script) → IsScript bytes s → IsScript bytes t → s ≡ t
