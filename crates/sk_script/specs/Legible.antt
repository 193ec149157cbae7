-- How far a line can be read.
use Rattle.std.specs.Prelude.{ℕ, ◌+◌, ◌-◌, Bool, true, false, ◌||◌, ◌==◌, if◌then◌else◌, nat_lt, List, [], ◌∷◌, ◌++◌, length, drop, Option, Some, None, is_some}
use Rattle.sk_lex.specs.declared.scanning.ScanFault.{ScanFault}
use Rattle.sk_lex.specs.declared.scanning.ScanFault.TheVariants as scan_fault
use Rattle.sk_lex.specs.declared.token.Token.{Token}
use Rattle.sk_lex.specs.declared.token.Word.TheVariants as word
use Rattle.sk_lex.specs.Front.{Text}
use Rattle.sk_lex.specs.Scanning.{Scan, begun, scan}
use Rattle.sk_script.specs.declared.legible.Legible.{Legible}
use Rattle.sk_rows.specs.Limits.{longest_text}
use Rattle.sk_script.specs.Limits.{longest_line}

-- How many bytes a text holds that goes on with these, behind so many others. The flag: a quote was read, which ends
-- the text unless a second follows.
abbrev pub held_from : Bool → ℕ → Text → ℕ
held_from is_second n [] = n
held_from false n (b ∷ z) = if b == 39 then held_from true n z else held_from false (n + 1) z
held_from true n (b ∷ z) = if b == 39 then held_from false (n + 1) z else n

-- the text whose quote stands at this place is past its limit
unfoldable pub is_long : ℕ → Text → Bool
is_long from line = nat_lt longest_text (held_from false 0 (drop (from + 1) line))

-- How many bytes stand before the first that fits no token. Of a text that is not ended, or is past its limit, it is
-- the quote.
abbrev pub reach : Text → Option ScanFault → ℕ
reach line None = length line
reach line (Some (scan_fault.OpenText place)) = place - 1
reach line (Some (scan_fault.BadByte from place)) = if is_long from line then from else place - 1

-- no line is read past its limit
abbrev pub capped : ℕ → ℕ
capped n = if nat_lt n longest_line then n else longest_line

-- where a text begins that holds the byte which fits no token
abbrev pub open_from : Option ScanFault → ℕ → Option ℕ
open_from (Some (scan_fault.BadByte from place)) end = if nat_lt from end then Some from else None
open_from _ end = None

-- it fits where a text fits
abbrev pub with_text : List Token → ℕ → Option ℕ → List Token
with_text tokens end None = tokens
with_text tokens end (Some from) = tokens ++ record { word = word.Text []; from = from; to = end } ∷ []

abbrev pub front : Bool → Text → Scan → ℕ → Legible
front long line s end = record {
  tokens = with_text s.0 end (open_from s.1 end);
  end = end;
  spoilt = long || nat_lt longest_line (length line) || is_some s.1;
}

abbrev pub front_by : Bool → Text → Scan → Legible
front_by long line s = front long line s (capped (reach line s.1))

-- The front of a line, up to the first byte that may not stand there: one that fits no token, the one past the limit
-- of lines, or one past the limit of scripts, which stands behind the line. Tokens that begin before it are in it whole.
unfoldable pub legible : Bool → Text → Legible
legible long line = front_by long line (begun longest_line (scan line))
