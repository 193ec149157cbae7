-- What the tokens of a printed line are, and which bytes a line of tokens holds.
use Rattle.std.specs.Prelude.{◌≡◌, true, List, map, Result, Ok, Err}
use Rattle.std.specs.List.{list_all}
use Rattle.sk_lex.specs.declared.token.LexFault.{LexFault}
use Rattle.sk_lex.specs.declared.token.Token.{Token}
use Rattle.sk_lex.specs.declared.token.Word.{Word}
use Rattle.sk_rows.specs.Text.{are_printable}
use Rattle.sk_lex.specs.Front.{Text}
use Rattle.sk_lex.specs.Scanning.{tokens}
use Rattle.sk_lex.specs.Spelling.{can_be_spelled, joined}

abbrev pub words_of : Result (List Token) LexFault → Result (List Word) LexFault
words_of (Ok ts) = Ok (map (λ t. t.word) ts)
words_of (Err fault) = Err fault

-- The tokens of a line of printed words are these words.
abbrev pub IsLexed : Type 0
IsLexed = (ws : List Word) → list_all can_be_spelled ws ≡ true → words_of (tokens (joined ws)) ≡ Ok ws

-- A line that is tokens to its end holds no byte but those that may stand in a script.
abbrev pub IsPrintable : Type 0
IsPrintable = (line : Text) (ts : List Token) → tokens line ≡ Ok ts → are_printable line ≡ true
