-- A name is a text.
use Rattle.std.proofs.Common.{◌≡◌, ℕ, Bool, true, false, ◌≤◌, leb, eqb, ◌&&◌, List, refl, arith, inl, inr, ◌⊎◌}
use Rattle.std.specs.Prelude.{◌||◌, not}
use Rattle.std.proofs.lemmas.Bool.{and_parts, leb-true, eqb-true, or_cases}
use Rattle.sk_rows.specs.Names.{is_name, is_name_byte, is_digit, are_name_bytes, has_name_length, begins_with_digit, is_keyword}
use Rattle.sk_rows.specs.Text.{ArePrintable}
use Rattle.std.proofs.lemmas.List.Sums.{AllPass-from_list_all}

byte_prints : (b : ℕ) → is_name_byte b ≡ true → (32 ≤ b) × (b ≤ 126)
byte_prints b e = elim (or_cases ((leb 97 b && leb b 122) || is_digit b) (eqb b 95) e) [
  | inl rest ↦ elim (or_cases (leb 97 b && leb b 122) (is_digit b) rest) [
    | inl letter ↦ let p = and_parts (leb 97 b) (leb b 122) letter in let low = leb-true _ _ p.0 in let high = leb-true _ _ p.1 in (omega (arith, low), omega (arith, high))
    | inr digit ↦ let p = and_parts (leb 48 b) (leb b 57) digit in let low = leb-true _ _ p.0 in let high = leb-true _ _ p.1 in (omega (arith, low), omega (arith, high))
  ]
  | inr line ↦ let is = eqb-true _ _ line in (omega (arith, is), omega (arith, is))
]

pub name_prints : (text : List ℕ) → is_name text ≡ true → ArePrintable text
unfolding is_name are_name_bytes
name_prints text e =
    let a = and_parts (has_name_length text && not (begins_with_digit text) && are_name_bytes text) (not (is_keyword text)) e in
    let b = and_parts (has_name_length text && not (begins_with_digit text)) (are_name_bytes text) a.0 in
    λ k d lt. byte_prints _ (AllPass-from_list_all is_name_byte text b.1 k d lt)
