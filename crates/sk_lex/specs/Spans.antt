-- Where the tokens of a line stand.
use Rattle.std.specs.Prelude.{◌≡◌, ◌≤◌, ◌<◌, ℕ, ◌-◌, ◌==◌, List, [], ◌∷◌, length, take, drop, Option, Some, None, Ok, IsTrue}
use Rattle.std.specs.List.{list_all}
use Rattle.sk_lex.specs.declared.scanning.ScanFault.{ScanFault}
use Rattle.sk_lex.specs.declared.scanning.ScanFault.TheVariants as scan_fault
use Rattle.sk_lex.specs.declared.token.Token.{Token}
use Rattle.sk_lex.specs.Front.{Text, front}
use Rattle.sk_lex.specs.Spelling.{IsWritten, IsEnd}

-- the bytes of a line from one place to another
abbrev pub slice : Text → ℕ → ℕ → Text
slice line from to = take (to - from) (drop from line)

-- nothing but spaces
abbrev pub IsBlank : Text → Type 0
IsBlank z = IsTrue (list_all (λ b. b == 32) z)

-- behind the place `at` and some spaces the token stands in the line, as it is written and as long as it is
pub record IsCut (line : Text) (at : ℕ) (t : Token) : Type 0 where
  pub after : at ≤ t.from
  pub some : t.from < t.to
  pub within : t.to ≤ length line
  pub blank : IsBlank (slice line at t.from)
  pub written : IsWritten t.word (slice line t.from t.to)
  pub ends : IsEnd t.word (drop t.to line)
  pub read : front (drop t.from line) ≡ Ok (t.word, t.to - t.from)

-- one token behind the other from this place on
abbrev pub AreCut : Text → ℕ → List Token → Type 0
AreCut line at [] = Unit {0}
AreCut line at (t ∷ ts) = IsCut line at t × AreCut line t.to ts

-- where the last of them ends
abbrev pub end_of : ℕ → List Token → ℕ
end_of at [] = at
end_of at (t ∷ ts) = end_of t.to ts

-- how far the words reach that stand before a fault
abbrev pub reach : ℕ → Option ScanFault → ℕ
reach len None = len
reach len (Some (scan_fault.BadByte from place)) = from
reach len (Some (scan_fault.OpenText place)) = place - 1

-- a byte that fits no token stands in the token that begins there
abbrev pub IsPlaced : Option ScanFault → Type 0
IsPlaced None = Unit {0}
IsPlaced (Some (scan_fault.BadByte from place)) = from < place
IsPlaced (Some (scan_fault.OpenText place)) = 1 ≤ place
