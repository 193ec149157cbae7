-- The options and their numbers.
use Rattle.std.proofs.Common.{◌≡◌, ℕ, Bool, true, false, cond, List, [], ◌∷◌, ◌++◌, map, refl, subst, arith}
use Rattle.std.specs.Prelude.{codes}
use Rattle.std.specs.Str.{bytes_eq}
use Rattle.std.proofs.lemmas.Slice.Eq.{bytes_eq-Decides}
use Rattle.sk_lex.specs.Front.{Text}
use Rattle.sk_script.specs.declared.options.TheConstants.{CHOICES}
use Rattle.sk_script.specs.declared.script.OptionLine.{OptionLine}
use Rattle.sk_script.specs.Options.{AreInRange, CanSet, IsWithin, number_or, range_in, range_of, settings_of}

-- the constant is the definition's table
pub ranged : (name : Text) → range_in (map (λ c. (c.0.now, c.1, c.2)) CHOICES) name ≡ range_of name
unfolding range_of
ranged name = refl

-- what lines that may stand in a script set is in its range, as the other number is
number_within : (before lines : List OptionLine) (other : ℕ) (name : Text) → CanSet before lines → IsWithin (range_of name) other → IsWithin (range_of name) (number_or other lines name)
number_within before [] other name can within = within
number_within before (o ∷ os) other name can within = by (bytes_eq o.name name) refl (number_within (before ++ o ∷ []) os other name can.1 within)
  where
    by : (b : Bool) → bytes_eq o.name name ≡ b → IsWithin (range_of name) (number_or other os name) → IsWithin (range_of name) (cond b o.number (number_or other os name))
    by true is later = subst (λ n. IsWithin (range_of n) o.number) ((bytes_eq-Decides o.name name).0 is) can.0.0
    by false is later = later

pub in_range : (lines : List OptionLine) → CanSet [] lines → AreInRange (settings_of lines)
unfolding range_of settings_of
in_range lines can = record {
  partitions = number_within [] lines 8 (codes "partitions") can (omega arith, omega arith);
  points = number_within [] lines 256 (codes "points") can (omega arith, omega arith);
  frames = number_within [] lines 32 (codes "frames") can (omega arith, omega arith);
  logmax = number_within [] lines 2147483647 (codes "logmax") can (omega arith, omega arith);
  startm = (number_within [] lines 0 (codes "startm") can (omega arith, omega arith)).1;
  starts = (number_within [] lines 0 (codes "starts") can (omega arith, omega arith)).1;
}
