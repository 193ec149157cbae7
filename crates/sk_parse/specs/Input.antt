-- What a parser reads from, and the steps that every rule is made of.
use Rattle.std.specs.Prelude.{◌≡◌, ℕ, zero, suc, Bool, false, ◌&&◌, if◌then◌else◌, ◌==◌, List, [], ◌∷◌, ◌++◌, length, Option, Some, None, Result, Ok, Err}
use denote.Enum.Bare.{sameb}
use Rattle.sk_lex.specs.contracts.token.Keyword.{the_type}
use Rattle.sk_lex.specs.declared.token.Keyword.{Keyword}
use Rattle.sk_lex.specs.declared.token.Word.{Word}
use Rattle.sk_lex.specs.declared.token.Word.TheVariants as word
use Rattle.sk_lex.specs.Marks as mark
use Rattle.sk_parse.specs.declared.cursor.Sign.{Sign}
use Rattle.sk_parse.specs.declared.cursor.Sign.TheVariants as sign
use Rattle.sk_parse.specs.declared.fault.Fault.{Fault}
use Rattle.sk_parse.specs.declared.fault.Fault.TheVariants as fault

-- the words that are left
abbrev pub Input : Type 0
Input = List Word

-- what was read and what is left then, or how many words are left from the first that does not fit
abbrev pub Outcome : Type 0 → Type 0
Outcome A = Result (A × Input) ℕ

abbrev pub Parser : Type 0 → Type 0
Parser A = Input → Outcome A

-- what a function that parses ensures: the outcome, unless memory runs out
abbrev pub Reads : {A : Type 0} → Outcome A → Result A Fault → Input → Type 0
Reads outcome (Ok a) new = outcome ≡ Ok (a, new)
Reads outcome (Err (fault.Left n)) new = outcome ≡ Err n
Reads outcome (Err fault.NoMemory) new = Unit {0}

abbrev pub and_then : {A B : Type 0} → Outcome A → (A → Parser B) → Outcome B
and_then (Ok p) f = f p.0 p.1
and_then (Err n) f = Err n

infixl 10 ◌>>=◌
abbrev pub ◌>>=◌ : {A B : Type 0} → Parser A → (A → Parser B) → Parser B
p >>= f = λ i. and_then (p i) f

infixl 10 ◌>>◌
abbrev pub ◌>>◌ : {A B : Type 0} → Parser A → Parser B → Parser B
p >> q = p >>= (λ _. q)

abbrev pub pure : {A : Type 0} → A → Parser A
pure a = λ i. Ok (a, i)

infixr 11 ◌<$>◌
abbrev pub ◌<$>◌ : {A B : Type 0} → (A → B) → Parser A → Parser B
f <$> p = p >>= (λ x. pure (f x))

abbrev pub refuse : {A : Type 0} → Parser A
refuse = λ i. Err (length i)

abbrev pub first : Input → Option Word
first [] = None
first (w ∷ i) = Some w

abbrev pub first_key : Option Word → Option Keyword
first_key (Some (word.Key k)) = Some k
first_key _ = None

abbrev pub next : Input → Input
next [] = []
next (w ∷ i) = i

unfoldable pub same_key : Keyword → Keyword → Bool
same_key = sameb the_type

abbrev pub is_at : Sign → Word → Bool
is_at (sign.Key k) (word.Key l) = same_key l k
is_at (sign.Mark a b) (word.Mark c d) = c == a && d == b
is_at _ _ = false

unfoldable pub sees : Sign → Input → Bool
sees s [] = false
sees s (w ∷ i) = is_at s w

unfoldable pub after : Sign → Input → Input
after s i = if sees s i then next i else i

abbrev pub eat : Sign → Parser Bool
eat s = λ i. Ok (sees s i, after s i)

unfoldable pub expect : Sign → Parser (Unit {0})
expect s = λ i. if sees s i then Ok (tt, next i) else refuse i

-- the word at the front, if it is of a kind
abbrev pub take_some : {A : Type 0} → Option A → Parser A
take_some None = refuse
take_some (Some a) = λ i. Ok (a, next i)

abbrev pub take_by : {A : Type 0} → (Word → Option A) → Option Word → Parser A
take_by f None = refuse
take_by f (Some w) = take_some (f w)

abbrev pub taken : {A : Type 0} → (Word → Option A) → Parser A
taken f = λ i. take_by f (first i) i

-- ---- lists: each turn takes a word, so as many turns as there are words are enough

unfoldable pub listed_from : {A : Type 0} → Parser A → ℕ → List A → Parser (List A)
listed_from item zero found = pure found
listed_from item (suc n) found = do
  more ← eat (sign.Mark mark.comma mark.none)
  if more then (do x ← item; listed_from item n (found ++ x ∷ [])) else pure found

-- one or more, with commas between
unfoldable pub listed : {A : Type 0} → Parser A → Parser (List A)
listed item = do
  x ← item
  λ i. listed_from item (length i) (x ∷ []) i
