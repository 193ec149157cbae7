-- How many bytes a row takes.
use Rattle.std.specs.Prelude.{◌≡◌, ℕ, ◌+◌, ◌≤◌, List, [], ◌∷◌, ◌++◌, length}
use Rattle.std.specs.List.{sum_by}
use Rattle.std.specs.Int.{w16, to_be_bytes}
use Rattle.std.proofs.lemmas.List.{length-append}
use Rattle.std.proofs.lemmas.List.Sums.{sum_by-cons}
use Rattle.std.proofs.Common.{refl, sym, ap, ◌∙◌, arith}
use Rattle.sk_rows.specs.declared.value.Value.{Value}
use Rattle.sk_rows.specs.declared.value.Value.TheVariants as value
use Rattle.sk_rows.specs.Values.{encoded_len}
use Rattle.sk_codec.specs.Spelling.{row_bytes, value_bytes}
use Rattle.sk_store.specs.Writes.{IsSmall}

value_len : (v : Value) → length (value_bytes v) ≡ encoded_len v
value_len (value.Int z) = refl
value_len (value.Text t) = let n = length-append (to_be_bytes w16 (length t)) t in omega (arith, n)
value_len (value.Bool b) = refl

len_is : (row : List Value) → length (row_bytes row) ≡ sum_by encoded_len row
len_is [] = refl
len_is (v ∷ vs) =
    length-append (value_bytes v) (row_bytes vs) ∙ ap (λ n. n + length (row_bytes vs)) (value_len v) ∙ ap (λ n. encoded_len v + n) (len_is vs) ∙ sym (sum_by-cons encoded_len v vs)

pub row_len : (row : List Value) → IsSmall row → length (row_bytes row) ≤ 4084
row_len row h = let e = len_is row in let le = h.1 in omega arith
