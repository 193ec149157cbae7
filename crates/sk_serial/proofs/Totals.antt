-- Sums of 64 bits.
use Rattle.std.proofs.Common.{◌≡◌, ◌^◌, true, List, [], ◌∷◌, Option, Some, None, SomeIff, ℤ, ◌+ℤ◌, pos, negsuc, FitsSigned, w64, refl}
use Rattle.std.proofs.lemmas.Bool.{ltb-true, lt-ltb, false_from_ne_true}
use Rattle.sk_rows.specs.declared.value.Value.{Value}
use Rattle.sk_rows.specs.Evaluation.{fits_64}
use Rattle.sk_serial.specs.Summary.{plus, total_from}

fits_64_from : (z : ℤ) → FitsSigned w64 z → fits_64 z ≡ true
fits_64_from (pos n) f = lt-ltb n (2 ^ 63) f.sfits
fits_64_from (negsuc n) f = lt-ltb n (2 ^ 63) f.sfits

fits_from : (z : ℤ) → fits_64 z ≡ true → FitsSigned w64 z
fits_from (pos n) e = record { sfits = ltb-true n (2 ^ 63) e }
fits_from (negsuc n) e = record { sfits = ltb-true n (2 ^ 63) e }

-- what a checked addition gives
pub plus_is : (r : Option ℤ) (sum n : ℤ) → SomeIff r (FitsSigned w64 (sum +ℤ n)) (sum +ℤ n) → r ≡ plus sum (Some n)
plus_is None sum n outside = rw (false_from_ne_true (fits_64 (sum +ℤ n)) (λ e. outside (fits_from (sum +ℤ n) e))) refl
plus_is (Some y) sum n inside = rw (fits_64_from (sum +ℤ n) inside.0, inside.1) refl

-- a sum that is none stays none
pub none_stays : (rows : List (List Value)) → total_from None rows ≡ None
none_stays [] = refl
none_stays (row ∷ rows) = refl
