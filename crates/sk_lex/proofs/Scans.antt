-- A scan that passes over the bytes of a token goes on behind them.
use Rattle.std.proofs.Common.{◌≡◌, ◌≢◌, ℕ, zero, suc, ◌+◌, ◌-◌, ◌≤◌, List, [], ◌∷◌, ◌++◌, length, slice_index, drop, Some, None, refl, ap, sym, ◌∙◌, arith}
use Rattle.std.specs.Prelude.{Ok, Err}
use Rattle.std.proofs.lemmas.Bool.{ne_eqb}
use Rattle.sk_lex.specs.declared.front.Misfit.TheVariants as misfit
use Rattle.sk_lex.specs.declared.scanning.ScanFault.TheVariants as scan_fault
use Rattle.sk_lex.specs.declared.token.Token.{Token}
use Rattle.sk_lex.specs.declared.token.Word.{Word}
use Rattle.sk_lex.specs.Front.{Text, front}
use Rattle.sk_lex.specs.Scanning.{scan_from, token}

scan_drop : (found : List Token) (n at : ℕ) (z : Text) → scan_from found n at z ≡ scan_from found 0 (at + n) (drop n z)
scan_drop found zero at z = let e : at ≡ at + 0 = omega arith in ap (λ k. scan_from found 0 k z) e
scan_drop found (suc n) at [] = refl
scan_drop found (suc n) at (b ∷ z) =
    let e : at + 1 + n ≡ at + suc n = omega arith in
    scan_drop found n (at + 1) z ∙ ap (λ k. scan_from found 0 k (drop n z)) e

drop_cons : (n b : ℕ) (z : Text) → 1 ≤ n → drop (n - 1) z ≡ drop n (b ∷ z)
drop_cons zero b z moves = absurd (omega arith)
drop_cons (suc n) b z moves = let e : suc n - 1 ≡ n = omega arith in ap (λ k. drop k z) e

-- one space further
pub scan_space : (found : List Token) (at : ℕ) (z : Text) → 1 ≤ length z → slice_index z 0 ≡ 32 → scan_from found 0 (at + 1) (drop 1 z) ≡ scan_from found 0 at z
scan_space found at [] is_some is = absurd (omega arith)
scan_space found at (b ∷ z) is_some is = sym (rw is refl)

-- one token further
pub scan_goes : (found : List Token) (at : ℕ) (z : Text) (r : Word × ℕ) → 1 ≤ length z → slice_index z 0 ≢ 32 → front z ≡ Ok r → 1 ≤ r.1
    → scan_from (found ++ token at r ∷ []) 0 (at + r.1) (drop r.1 z) ≡ scan_from found 0 at z
scan_goes found at [] r is_some other is moves = absurd (omega arith)
scan_goes found at (b ∷ z) r is_some other is moves =
    let longer = found ++ token at r ∷ [] in
    let place : at + 1 + (r.1 - 1) ≡ at + r.1 = omega arith in
    let step : scan_from found 0 at (b ∷ z) ≡ scan_from longer (r.1 - 1) (at + 1) z = rw (ne_eqb b 32 other, is) refl in
    sym (step ∙ scan_drop longer (r.1 - 1) (at + 1) z ∙ ap (λ k. scan_from longer 0 k (drop (r.1 - 1) z)) place ∙ ap (scan_from longer 0 (at + r.1)) (drop_cons r.1 b z moves))

-- no token at the front
pub scan_bad : (found : List Token) (at n : ℕ) (z : Text) → 1 ≤ length z → slice_index z 0 ≢ 32 → front z ≡ Err (misfit.Bad n)
    → scan_from found 0 at z ≡ (found, Some (scan_fault.BadByte at (at + n + 1)))
scan_bad found at n [] is_some other is = absurd (omega arith)
scan_bad found at n (b ∷ z) is_some other is = rw (ne_eqb b 32 other, is) refl

pub scan_open : (found : List Token) (at : ℕ) (z : Text) → 1 ≤ length z → slice_index z 0 ≢ 32 → front z ≡ Err misfit.Open
    → scan_from found 0 at z ≡ (found, Some (scan_fault.OpenText (at + 1)))
scan_open found at [] is_some other is = absurd (omega arith)
scan_open found at (b ∷ z) is_some other is = rw (ne_eqb b 32 other, is) refl

pub scan_end : (found : List Token) (at : ℕ) (z : Text) → length z ≡ 0 → scan_from found 0 at z ≡ (found, None)
scan_end found at [] none = refl
scan_end found at (b ∷ z) none = absurd (omega arith)
