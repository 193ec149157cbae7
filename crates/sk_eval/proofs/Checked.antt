-- What a checked operation answers.
use Rattle.std.proofs.Common.{◌≡◌, ◌^◌, Bool, true, false, Option, Some, None, ok_or, SomeIff, ℤ, pos, negsuc, FitsSigned, w64, refl}
use Rattle.std.proofs.lemmas.Bool.{ltb-true, lt-ltb, false_from_ne_true}
use Rattle.sk_rows.specs.declared.faults.ValueFault.TheVariants.{Overflow}
use Rattle.sk_rows.specs.Evaluation.{fits_64, in_64}

fits_64_from : (z : ℤ) → FitsSigned w64 z → fits_64 z ≡ true
fits_64_from (pos n) f = lt-ltb n (2 ^ 63) f.sfits
fits_64_from (negsuc n) f = lt-ltb n (2 ^ 63) f.sfits

fits_from : (z : ℤ) → fits_64 z ≡ true → FitsSigned w64 z
fits_from (pos n) e = record { sfits = ltb-true n (2 ^ 63) e }
fits_from (negsuc n) e = record { sfits = ltb-true n (2 ^ 63) e }

-- a checked operation whose result is z gives z, or Overflow
pub checked : (r : Option ℤ) (z : ℤ) → SomeIff r (FitsSigned w64 z) z → ok_or r Overflow ≡ in_64 z
unfolding in_64
checked None z outside = rw (false_from_ne_true (fits_64 z) (λ e. outside (fits_from z e))) refl
checked (Some y) z inside = rw (fits_64_from z inside.0, inside.1) refl
