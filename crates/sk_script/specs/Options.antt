-- Lines that set an option.
use Rattle.std.specs.Prelude.{◌≡◌, ◌≤◌, ℕ, Bool, false, not, ◌&&◌, if◌then◌else◌, nat_le, List, [], ◌∷◌, ◌++◌, codes, Option, Some, None, is_some, Result, Ok}
use Rattle.std.specs.List.{list_any}
use Rattle.std.specs.Str.{bytes_eq}
use Rattle.sk_lex.specs.declared.token.Token.{Token}
use Rattle.sk_lex.specs.declared.token.Word.{Word}
use Rattle.sk_lex.specs.declared.token.Word.TheVariants as word
use Rattle.sk_parse.specs.declared.fault.ParseFault.{ParseFault}
use Rattle.sk_script.specs.declared.script.OptionLine.{OptionLine}
use Rattle.sk_script.specs.declared.settings.Settings.{Settings}
use Rattle.sk_script.specs.Body.{misfit}

-- ---- which options there are

-- an option's name, and the least and the greatest number that it may have
abbrev pub Choice : Type 0
Choice = List ℕ × ℕ × ℕ

abbrev pub choices : List Choice
choices =
    (codes "partitions", 2, 64) ∷
    (codes "points", 2, 4096) ∷
    (codes "frames", 1, 64) ∷
    (codes "logmax", 32, 2147483647) ∷
    (codes "startm", 0, 2147483646) ∷
    (codes "starts", 0, 2147483646) ∷
    []

abbrev pub range_in : List Choice → List ℕ → Option (ℕ × ℕ)
range_in [] name = None
range_in (c ∷ cs) name = if bytes_eq c.0 name then Some (c.1, c.2) else range_in cs name

-- between which numbers the option of this name stands, if there is one
unfoldable pub range_of : List ℕ → Option (ℕ × ℕ)
range_of = range_in choices

abbrev pub is_within : Option (ℕ × ℕ) → ℕ → Bool
is_within None n = false
is_within (Some r) n = nat_le r.0 n && nat_le n r.1

abbrev pub IsWithin : Option (ℕ × ℕ) → ℕ → Type 0
IsWithin None n = ⊥
IsWithin (Some r) n = (r.0 ≤ n) × (n ≤ r.1)

-- some line sets the option of this name
abbrev pub has_option : List ℕ → List OptionLine → Bool
has_option name = list_any (λ o. bytes_eq o.name name)

-- Behind these lines, the option of this name may be set to this number: there is such an option, the number is in its
-- range, and none of the lines sets it.
abbrev pub MaySet : List OptionLine → List ℕ → ℕ → Type 0
MaySet before name n = IsWithin (range_of name) n × (has_option name before ≡ false)

-- each of these lines may stand behind those before it
abbrev pub CanSet : List OptionLine → List OptionLine → Type 0
CanSet before [] = Unit {0}
CanSet before (o ∷ os) = MaySet before o.name o.number × CanSet (before ++ o ∷ []) os

-- ---- a line that sets one

-- the name of an option that none of the lines sets
abbrev pub new_option : List OptionLine → Word → Option (List ℕ)
new_option lines (word.Name t) = if is_some (range_of t) && not (has_option t lines) then Some t else None
new_option lines _ = None

-- a number that the option of this name may have
abbrev pub number_of : List ℕ → Word → Option ℕ
number_of name (word.Number n) = if is_within (range_of name) n then Some n else None
number_of name _ = None

-- nothing is left behind the number
abbrev pub behind_number : OptionLine → List Token → ℕ → Result OptionLine ParseFault
behind_number o [] end = Ok o
behind_number o (t ∷ ts) end = misfit (t ∷ ts) end

abbrev pub by_number : Option ℕ → ℕ → List ℕ → Token → List Token → ℕ → Result OptionLine ParseFault
by_number (Some k) n name t ts end = behind_number (record { line = n; name = name; number = k }) ts end
by_number None n name t ts end = misfit (t ∷ ts) end

abbrev pub behind_name : ℕ → List ℕ → List Token → ℕ → Result OptionLine ParseFault
behind_name n name [] end = misfit [] end
behind_name n name (t ∷ ts) end = by_number (number_of name t.word) n name t ts end

abbrev pub by_name : Option (List ℕ) → ℕ → Token → List Token → ℕ → Result OptionLine ParseFault
by_name (Some name) n t ts end = behind_name n name ts end
by_name None n t ts end = misfit (t ∷ ts) end

-- what the tokens behind SET say in the line of this number
unfoldable pub option_line : List OptionLine → ℕ → List Token → ℕ → Result OptionLine ParseFault
option_line lines n [] end = misfit [] end
option_line lines n (t ∷ ts) end = by_name (new_option lines t.word) n t ts end

-- ---- what a script sets

-- the number that the first of the lines with this name sets, or else the other
abbrev pub number_or : ℕ → List OptionLine → List ℕ → ℕ
number_or other [] name = other
number_or other (o ∷ os) name = if bytes_eq o.name name then o.number else number_or other os name

unfoldable pub settings_of : List OptionLine → Settings
settings_of lines = record {
  partitions = number_or 8 lines (codes "partitions");
  points = number_or 256 lines (codes "points");
  frames = number_or 32 lines (codes "frames");
  logmax = number_or 2147483647 lines (codes "logmax");
  startm = number_or 0 lines (codes "startm");
  starts = number_or 0 lines (codes "starts");
}

-- each option is in its range
pub record AreInRange (s : Settings) : Type 0 where
  pub partitions : (2 ≤ s.partitions) × (s.partitions ≤ 64)
  pub points : (2 ≤ s.points) × (s.points ≤ 4096)
  pub frames : (1 ≤ s.frames) × (s.frames ≤ 64)
  pub logmax : (32 ≤ s.logmax) × (s.logmax ≤ 2147483647)
  pub startm : s.startm ≤ 2147483646
  pub starts : s.starts ≤ 2147483646
