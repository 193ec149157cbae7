-- What is read at the front of some bytes is written there, and nothing behind it makes it longer.
use Rattle.std.proofs.Common.{◌≡◌, ℕ, zero, suc, ◌+◌, ◌^◌, Bool, true, false, cond, ◌&&◌, ◌||◌, ◌==◌, nat_lt, [], ◌∷◌, ◌++◌, append_assoc, append-nil, take, drop, Option, Some, None, refl, sym, ap, subst, ◌∙◌, arith}
use Rattle.std.specs.Prelude.{Ok, Err}
use Rattle.std.specs.List.{flat_map, list_all, prefix_len}
use Rattle.std.proofs.lemmas.Bool.{eqb-true, ne_eqb}
use Rattle.sk_rows.specs.Text.{are_printable}
use Rattle.sk_lex.specs.declared.front.Class.{Class}
use Rattle.sk_lex.specs.declared.front.Class.TheVariants as class
use Rattle.sk_lex.specs.declared.front.Misfit.TheVariants as misfit
use Rattle.sk_lex.specs.declared.token.Keyword.{Keyword}
use Rattle.sk_lex.specs.declared.token.Word.{Word}
use Rattle.sk_lex.specs.declared.token.Word.TheVariants as word
use Rattle.sk_lex.specs.Front.{Text, Found, amount, begins, front, is_in, is_pair, is_single, keyword, mark_at, number, number_at, number_of, run, text_at, text_from, text_of, word_at, word_of}
use Rattle.sk_lex.specs.Spelling.{IsEnd, IsWritten, is_word, quoted, quoted_text}

abbrev Stands : Text → Word → ℕ → Type 0
Stands z w n = IsWritten w (take n z) × IsEnd w (drop n z)

abbrev found_or : Word × ℕ → Found → Word × ℕ
found_or d (Ok r) = r
found_or d (Err e) = d

abbrev Is : Found → Word → ℕ → Type 0
Is found w n = found ≡ Ok (w, n)

-- what stands is told by what was found
told : (z : Text) (v w : Word) (m n : ℕ) → Is (Ok (v, m)) w n → Stands z v m → Stands z w n
told z v w m n is stands =
    let same_word : v ≡ w = ap (λ o. (found_or (v, m) o).0) is in
    let same_len : m ≡ n = ap (λ o. (found_or (v, m) o).1) is in
    subst (λ k. Stands z w k) same_len (subst (λ u. Stands z u m) same_word stands)

-- ---- runs

one_and : (n : ℕ) → 1 + n ≡ suc n
one_and n = omega arith

take_passes : (p : ℕ → Bool) (z : Text) → list_all p (take (prefix_len p z) z) ≡ true
take_passes p [] = refl
take_passes p (b ∷ z) = by (p b) refl (take_passes p z)
  where
    by : (t : Bool) → p b ≡ t → list_all p (take (prefix_len p z) z) ≡ true → list_all p (take (cond t (1 + prefix_len p z) 0) (b ∷ z)) ≡ true
    by true is rest = ap (λ m. list_all p (take m (b ∷ z))) (one_and (prefix_len p z)) ∙ rw is rest
    by false is rest = refl

drop_stops : (c : Class) (z : Text) → begins c (drop (prefix_len (is_in c) z) z) ≡ false
unfolding begins
drop_stops c [] = refl
drop_stops c (b ∷ z) = by (is_in c b) refl (drop_stops c z)
  where
    by : (t : Bool) → is_in c b ≡ t → begins c (drop (prefix_len (is_in c) z) z) ≡ false → begins c (drop (cond t (1 + prefix_len (is_in c) z) 0) (b ∷ z)) ≡ false
    by true is rest = ap (λ m. begins c (drop m (b ∷ z))) (one_and (prefix_len (is_in c) z)) ∙ rest
    by false is rest = is

-- a run begins as the whole does
run_begins : (c d : Class) (z : Text) → begins d z ≡ true → begins c (take (prefix_len (is_in d) z) z) ≡ begins c z
unfolding begins
run_begins c d [] is = absurd cc
run_begins c d (b ∷ z) is =
    ap (λ t. begins c (take (cond t (1 + prefix_len (is_in d) z) 0) (b ∷ z))) is ∙ ap (λ m. begins c (take m (b ∷ z))) (one_and (prefix_len (is_in d) z))

-- ---- numbers

number_stands : (z : Text) (w : Word) (n : ℕ) → Is (number_at z) w n → Stands z w n
unfolding number_at number run
number_stands z w n is = by (nat_lt (amount 0 s) (2 ^ 64)) is
  where
    s : Text
    s = take (prefix_len (is_in class.Digits) z) z

    by : (t : Bool) → Is (number_of (prefix_len (is_in class.Digits) z) (cond t (Some (amount 0 s)) None)) w n → Stands z w n
    by true e = told z (word.Number (amount 0 s)) w (prefix_len (is_in class.Digits) z) n e ((refl, take_passes (is_in class.Digits) z), drop_stops class.Digits z)
    by false e = absurd cc

-- ---- words

word_stands : (z : Text) (w : Word) (n : ℕ) → begins class.Letters z ≡ true → begins class.Digits z ≡ false → Is (word_at z) w n → Stands z w n
unfolding word_at run is_word
word_stands z w n letters digits is = by (keyword s) refl is
  where
    m : ℕ
    m = prefix_len (is_in class.Letters) z

    s : Text
    s = take m z

    begun : begins class.Letters s ≡ true
    begun = run_begins class.Letters class.Letters z letters ∙ letters

    no_digit : begins class.Digits s ≡ false
    no_digit = run_begins class.Digits class.Letters z letters ∙ digits

    by : (k : Option Keyword) → keyword s ≡ k → Is (Ok (word_of s k, m)) w n → Stands z w n
    by (Some k) at e = told z (word.Key k) w m n e (at, drop_stops class.Letters z)
    by None at e = told z (word.Name s) w m n e ((refl, rw (begun, no_digit) (take_passes (is_in class.Letters) z), at), drop_stops class.Letters z)

-- ---- texts

abbrev quote_if : Bool → Text → Text
quote_if true s = 39 ∷ s
quote_if false s = s

-- what was read is u, written in k bytes; the flag: its last quote was read before
abbrev Holds : Bool → Text → ℕ → Text → Text → ℕ → Type 0
Holds flag found at z t n =
    (u : Text) × (k : ℕ) × (t ≡ found ++ u) × (n ≡ at + k) × (quote_if flag (take k z) ≡ flat_map quoted u ++ 39 ∷ []) × (begins class.Quote (drop k z) ≡ false)

abbrev read_or : Text × ℕ → Option (Text × ℕ) → Text × ℕ
read_or d (Some r) = r
read_or d None = d

abbrev Reads : Option (Text × ℕ) → Text → ℕ → Type 0
Reads o t n = o ≡ Some (t, n)

text_ends : (found : Text) (at : ℕ) (z : Text) (t : Text) (n : ℕ) → begins class.Quote z ≡ false → Reads (Some (found, at)) t n → Holds true found at z t n
text_ends found at z t n no_quote is =
    let same_text : found ≡ t = ap (λ o. (read_or (found, at) o).0) is in
    let same_len : at ≡ n = ap (λ o. (read_or (found, at) o).1) is in
    ([], 0, sym same_text ∙ sym (append-nil found), omega arith, refl, no_quote)

text_holds : (flag : Bool) (found : Text) (at : ℕ) (z : Text) (t : Text) (n : ℕ) → Reads (text_from flag found at z) t n → Holds flag found at z t n
unfolding begins
text_holds false found at [] t n is = absurd cc
text_holds true found at [] t n is = text_ends found at [] t n refl is
text_holds false found at (b ∷ z) t n is = by (b == 39) refl is (text_holds true found (at + 1) z t n) (text_holds false (found ++ b ∷ []) (at + 1) z t n)
  where
    by : (q : Bool) → (b == 39) ≡ q → Reads (cond q (text_from true found (at + 1) z) (text_from false (found ++ b ∷ []) (at + 1) z)) t n
        → (Reads (text_from true found (at + 1) z) t n → Holds true found (at + 1) z t n)
        → (Reads (text_from false (found ++ b ∷ []) (at + 1) z) t n → Holds false (found ++ b ∷ []) (at + 1) z t n) → Holds false found at (b ∷ z) t n
    by true at_quote e quote_next byte_next =
        let h = quote_next e in
        let is_quote : b ≡ 39 = eqb-true b 39 at_quote in
        (h.0, suc h.1, h.2, omega (arith, h.3), ap (λ x. x ∷ take h.1 z) is_quote ∙ h.4, h.5)
    by false at_quote e quote_next byte_next =
        let h = byte_next e in
        (b ∷ h.0, suc h.1, h.2 ∙ append_assoc found (b ∷ []) h.0, omega (arith, h.3), rw at_quote (ap (λ l. b ∷ l) h.4), h.5)
text_holds true found at (b ∷ z) t n is = by (b == 39) refl is (text_holds false (found ++ 39 ∷ []) (at + 1) z t n)
  where
    by : (q : Bool) → (b == 39) ≡ q → Reads (cond q (text_from false (found ++ 39 ∷ []) (at + 1) z) (Some (found, at))) t n
        → (Reads (text_from false (found ++ 39 ∷ []) (at + 1) z) t n → Holds false (found ++ 39 ∷ []) (at + 1) z t n) → Holds true found at (b ∷ z) t n
    by true at_quote e byte_next =
        let h = byte_next e in
        let is_quote : b ≡ 39 = eqb-true b 39 at_quote in
        (39 ∷ h.0, suc h.1, h.2 ∙ append_assoc found (39 ∷ []) h.0, omega (arith, h.3), ap (λ x. 39 ∷ x ∷ take h.1 z) is_quote ∙ ap (λ l. 39 ∷ 39 ∷ l) h.4, h.5)
    by false at_quote e byte_next = text_ends found at (b ∷ z) t n at_quote e

text_stands : (z : Text) (w : Word) (n : ℕ) → begins class.Quote z ≡ true → Is (text_at z) w n → Stands z w n
unfolding text_at begins
text_stands [] w n quote is = absurd cc
text_stands (b ∷ z) w n quote is = by (text_from false [] 1 z) refl is
  where
    printable : (t : Text) (m : ℕ) → Reads (text_from false [] 1 z) t m → (ok : Bool) → Is (cond ok (Ok (word.Text t, m)) (Err (misfit.Bad (1 + run class.Printable z)))) w n → Stands (b ∷ z) w n
    printable t m read true e =
        let h = text_holds false [] 1 z t m read in
        let is_quote : b ≡ 39 = eqb-true b 39 quote in
        let len : m ≡ suc h.1 = omega (arith, h.3) in
        let written : b ∷ take h.1 z ≡ quoted_text t = ap (λ x. x ∷ take h.1 z) is_quote ∙ ap (λ l. 39 ∷ l) h.4 ∙ ap quoted_text (sym h.2) in
        told (b ∷ z) (word.Text t) w m n e (subst (λ k. Stands (b ∷ z) (word.Text t) k) (sym len) (written, h.5))
    printable t m read false e = absurd cc

    by : (o : Option (Text × ℕ)) → text_from false [] 1 z ≡ o → Is (text_of z o) w n → Stands (b ∷ z) w n
    by None at e = absurd cc
    by (Some r) at e = printable r.0 r.1 at (are_printable r.0) e

-- ---- marks

no_pair : (b : ℕ) → is_pair b 0 ≡ false
unfolding is_pair
no_pair b = by (b == 60) (b == 62)
  where
    by : (s t : Bool) → ((s && (0 == 61 || 0 == 62)) || (t && 0 == 61)) ≡ false
    by true true = refl
    by true false = refl
    by false true = refl
    by false false = refl

pair_second : (b c : ℕ) → is_pair b c ≡ true → (c == 0) ≡ false
pair_second b zero is = let e = no_pair b in absurd cc
pair_second b (suc c) is = ne_eqb (suc c) 0 (λ e. absurd (omega arith))

mark_stands : (z : Text) (w : Word) (n : ℕ) → Is (mark_at z) w n → Stands z w n
unfolding mark_at
mark_stands [] w n is = absurd cc
mark_stands (b ∷ []) w n is = by (is_pair b 0) (is_single b) refl is
  where
    by : (p s : Bool) → is_pair b 0 ≡ p → Is (cond p (Ok (word.Mark b 0, 2)) (cond s (Ok (word.Mark b 0, 1)) (Err (misfit.Bad 0)))) w n → Stands (b ∷ []) w n
    by true s at e = let none = no_pair b in absurd cc
    by false true at e = told (b ∷ []) (word.Mark b 0) w 1 n e (refl, λ _. at)
    by false false at e = absurd cc
mark_stands (b ∷ c ∷ z) w n is = by (is_pair b c) (is_single b) refl is
  where
    by : (p s : Bool) → is_pair b c ≡ p → Is (cond p (Ok (word.Mark b c, 2)) (cond s (Ok (word.Mark b 0, 1)) (Err (misfit.Bad 0)))) w n → Stands (b ∷ c ∷ z) w n
    by true s at e =
        let some = pair_second b c at in
        told (b ∷ c ∷ z) (word.Mark b c) w 2 n e (rw some refl, λ none. let bad : (c == 0) ≡ true = ap (λ x. x == 0) none in absurd cc)
    by false true at e = told (b ∷ c ∷ z) (word.Mark b 0) w 1 n e (refl, λ _. at)
    by false false at e = absurd cc

-- ---- all of them

pub front_stands : (z : Text) (w : Word) (n : ℕ) → front z ≡ Ok (w, n) → IsWritten w (take n z) × IsEnd w (drop n z)
unfolding front
front_stands z w n is = by (begins class.Digits z) (begins class.Letters z) (begins class.Quote z) refl refl refl is
  where
    by : (d l q : Bool) → begins class.Digits z ≡ d → begins class.Letters z ≡ l → begins class.Quote z ≡ q
        → Is (cond d (number_at z) (cond l (word_at z) (cond q (text_at z) (mark_at z)))) w n → Stands z w n
    by true l q digits letters quote e = number_stands z w n e
    by false true q digits letters quote e = word_stands z w n letters digits e
    by false false true digits letters quote e = text_stands z w n quote e
    by false false false digits letters quote e = mark_stands z w n e
