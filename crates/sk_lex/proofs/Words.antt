-- The bytes of a word are printable.
use Rattle.std.proofs.Common.{◌≡◌, ℕ, ◌<◌, Bool, true, List, take, length, get_or, arith}
use Rattle.std.specs.List.{prefix_len}
use Rattle.std.proofs.lemmas.Bool.Decides.{nat_tests}
use Rattle.std.proofs.lemmas.List.{get_or-take}
use Rattle.std.proofs.lemmas.List.Folds.{length-prefix_len}
use Rattle.std.proofs.lemmas.List.Sums.{prefix_len_passes}
use Rattle.sk_rows.specs.Text.{IsPrintable, ArePrintable}
use Rattle.sk_lex.specs.Front.{run, is_in}
use Rattle.sk_lex.specs.declared.front.Class.TheVariants as class

letter_printable : (b : ℕ) → is_in class.Letters b ≡ true → IsPrintable b
letter_printable b is = grind (arith, nat_tests)

-- the longest run of bytes that pass holds no other
run_passes : (p : ℕ → Bool) (z : List ℕ) (k d : ℕ) → k < length (take (prefix_len p z) z) → p (get_or (take (prefix_len p z) z) k d) ≡ true
run_passes p z k d inside =
    let short : k < prefix_len p z = omega (arith, length-prefix_len p z) in
    rw (get_or-take (prefix_len p z) z k d short) (prefix_len_passes p z k d short)

pub word_printable : (z : List ℕ) → ArePrintable (take (run class.Letters z) z)
unfolding run
word_printable z k d inside = letter_printable _ (run_passes (is_in class.Letters) z k d inside)
