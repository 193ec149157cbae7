-- What a statement's answer says by the grammar, and where the first word stands that does not fit.
use Rattle.std.specs.Prelude.{◌≡◌, ℕ, List, [], ◌∷◌, ◌++◌, map, Result, Ok, Err}
use Rattle.sk_lex.specs.declared.token.Token.{Token}
use Rattle.sk_lex.specs.declared.token.Word.{Word}
use Rattle.sk_rows.specs.declared.statement.Statement.{Statement}
use Rattle.sk_parse.specs.declared.fault.ParseFault.{ParseFault}
use Rattle.sk_parse.specs.declared.fault.ParseFault.TheVariants as fault
use Rattle.sk_parse.specs.Saying.{Says}
use Rattle.sk_parse.specs.Statements.{place_of}

abbrev pub words : List Token → List Word
words = map (λ t. t.word)

-- some statement begins with these words
abbrev pub BeginStatement : List Word → Type 0
BeginStatement us = (zs : List Word) × (s : Statement) × Says (us ++ zs) s

-- no statement begins with these words and the next one, or with nothing left is these words
abbrev pub IsRefused : List Word → List Token → Type 0
IsRefused us [] = (s : Statement) → ¬ Says us s
IsRefused us (t ∷ ts) = (zs : List Word) (s : Statement) → ¬ Says (us ++ t.word ∷ zs) s

-- the place is that of the first token with which no statement goes on, or behind the end where more has to come
abbrev pub IsFirstFault : List Token → ℕ → ℕ → Type 0
IsFirstFault tokens end place =
    (us : List Token) × (vs : List Token) × (tokens ≡ us ++ vs) × (place ≡ place_of end vs) × BeginStatement (words us) × IsRefused (words us) vs

-- the tokens say the statement by the grammar, or the place is that of their first fault
abbrev pub IsAnswer : List Token → ℕ → Result Statement ParseFault → Type 0
IsAnswer tokens end (Ok s) = Says (words tokens) s
IsAnswer tokens end (Err (fault.Unexpected place)) = IsFirstFault tokens end place
IsAnswer tokens end (Err fault.NoMemory) = Unit {0}
