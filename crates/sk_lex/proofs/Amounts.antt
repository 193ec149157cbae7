-- Numbers that grow with their digits.
use Rattle.std.proofs.Common.{◌≡◌, ℕ, ◌+◌, ◌-◌, ◌*◌, ◌^◌, ◌<◌, ◌≤◌, List, [], ◌∷◌, length, Some, None, sym, ap, ◌∙◌, arith}
use Rattle.std.proofs.lemmas.Bool.{le-ltb, lt-ltb, cond-true, cond-false}
use Rattle.sk_lex.specs.Front.{amount, number}

pub amount_grows : (n : ℕ) (z : List ℕ) → n ≤ amount n z
amount_grows n [] = omega arith
amount_grows n (b ∷ z) = omega (arith, amount_grows (n * 10 + (b - 48)) z)

-- where the digits so far do not fit, the whole does not
pub too_large : (n : ℕ) (z digits : List ℕ) → amount n z ≡ amount 0 digits → 2 ^ 64 ≤ n → None ≡ number digits
unfolding number
too_large n z digits same large = sym (cond-false _ _ _ (le-ltb (amount 0 digits) (2 ^ 64) (omega (arith, amount_grows n z, same))))

-- behind the last digit
pub fits : (n : ℕ) (z digits : List ℕ) → amount n z ≡ amount 0 digits → length z < 1 → n < 2 ^ 64 → Some n ≡ number digits
unfolding number
fits n [] digits same over small = ap Some same ∙ sym (cond-true _ _ _ (lt-ltb (amount 0 digits) (2 ^ 64) (omega (arith, same))))
fits n (b ∷ z) digits same over small = absurd (omega arith)
