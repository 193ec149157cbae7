-- What digits come to.
use Rattle.std.proofs.Common.{◌≡◌, ◌<◌, ◌≤◌, ℕ, ◌+◌, ◌-◌, ◌*◌, Bool, false, cond, List, [], ◌∷◌, length, get_or, Some, None, sym, ap, arith}
use Rattle.std.specs.Prelude.{nat_le}
use Rattle.std.proofs.lemmas.Bool.Decides.{nat_tests}
use Rattle.sk_script.specs.Words.{amount, up_to}

-- more digits never come to less
pub amount_grows : (n : ℕ) (bs : List ℕ) → n ≤ amount n bs
amount_grows n [] = omega arith
amount_grows n (b ∷ bs) = let more = amount_grows (10 * n + (b - 48)) bs in omega arith

-- where the digits so far and one more are past the limit, all are
pub past_limit : (most n : ℕ) (rest digits : List ℕ) (d : ℕ) → 1 ≤ length rest → d ≡ get_or rest 0 0 - 48 → amount n rest ≡ amount 0 digits → most < 10 * n + d → None ≡ up_to most (amount 0 digits)
past_limit most n [] digits d some is on past = absurd (omega arith)
past_limit most n (b ∷ bs) digits d some is on past =
    let more : 10 * n + (b - 48) ≤ amount (10 * n + (b - 48)) bs = amount_grows (10 * n + (b - 48)) bs in
    let all : amount (10 * n + (b - 48)) bs ≡ amount 0 digits = on in
    let one : d ≡ b - 48 = is in
    let beyond : most < amount 0 digits = omega arith in
    let none : nat_le (amount 0 digits) most ≡ false = grind (arith, nat_tests) in
    sym (ap (λ (is_low : Bool). cond is_low (Some (amount 0 digits)) None) none)
