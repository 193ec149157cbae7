-- The tokens of a line, and what comes back of them.
use Rattle.std.specs.Prelude.{◌≤◌, ◌<◌, ℕ, Bool, true, false, List, All}
use Rattle.std.specs.List.{AllPairs}
use Rattle.sk_lex.specs.declared.token.Token.{Token}
use Rattle.sk_parse.specs.declared.fault.ParseFault.{ParseFault}
use Rattle.sk_parse.specs.declared.fault.ParseFault.TheVariants as parse
use Rattle.sk_script.specs.Limits.{longest_line}

-- tokens of a line of so many bytes, one behind the other
pub record IsLine (tokens : List Token) (end : ℕ) : Type 0 where
  pub short : end ≤ longest_line
  pub before : All (λ t. t.from < end) tokens
  pub rising : AllPairs (λ t u. t.from < u.from) tokens

-- memory was wanted
abbrev pub wants : ParseFault → Bool
wants parse.NoMemory = true
wants (parse.Unexpected p) = false
