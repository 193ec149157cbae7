-- A line that is tokens to its end holds no byte but 32 to 126.
use Rattle.std.proofs.Common.{◌≡◌, ◌==◌, ℕ, zero, suc, ◌+◌, ◌-◌, ◌≤◌, Bool, true, false, cond, ◌&&◌, ◌||◌, List, [], ◌∷◌, ◌++◌, take, Option, Some, None, refl, sym, ap, subst, ◌∙◌, arith, ◌⊎◌, inl, inr}
use Rattle.std.specs.Prelude.{nat_le, Ok, Err}
use Rattle.std.specs.List.{flat_map, list_all, prefix_len}
use Rattle.std.proofs.lemmas.Bool.{and_parts, le-leb, leb-true, or_cases}
use Rattle.std.proofs.lemmas.Bool.Decides.{nat_tests}
use Rattle.std.proofs.lemmas.List.Folds.{list_all-append}
use Rattle.sk_rows.specs.Text.{are_printable, is_printable}
use Rattle.sk_lex.specs.declared.front.Class.TheVariants as class
use Rattle.sk_lex.specs.declared.front.Misfit.TheVariants as misfit
use Rattle.sk_lex.specs.declared.scanning.ScanFault.TheVariants as scan_fault
use Rattle.sk_lex.specs.declared.token.Token.{Token}
use Rattle.sk_lex.specs.declared.token.Word.{Word}
use Rattle.sk_lex.specs.declared.token.Word.TheVariants as word
use Rattle.sk_lex.specs.Front.{Found, Text, begins, first, front, is_digit, is_in, is_letter, is_pair, is_single, mark_at, number, number_at, number_of, run, text_at, text_from, text_of, word_at}
use Rattle.sk_lex.specs.Scanning.{Scan, scan, scan_from, scan_on, token, tokens, tokens_by}
use Rattle.sk_lex.specs.Spelling.{IsWritten, quoted, quoted_text}
use Rattle.sk_lex.proofs.Written.{front_stands}

abbrev pub ArePrintable : Text → Type 0
ArePrintable z = list_all is_printable z ≡ true

-- ---- bytes of a class

between : (lo hi b : ℕ) → 32 ≤ lo → hi ≤ 126 → (nat_le lo b && nat_le b hi) ≡ true → is_printable b ≡ true
between lo hi b low high is =
    let parts = and_parts (nat_le lo b) (nat_le b hi) is in
    let least = leb-true lo b parts.0 in
    let most = leb-true b hi parts.1 in
    rw (le-leb 32 b (omega arith), le-leb b 126 (omega arith)) refl

exact : (b c : ℕ) → is_printable c ≡ true → (b == c) ≡ true → is_printable b ≡ true
exact b c good is = let same : b ≡ c = grind (arith, nat_tests) in ap is_printable same ∙ good

letter : (b : ℕ) → is_letter b ≡ true → is_printable b ≡ true
letter b is = by (or_cases ((nat_le 65 b && nat_le b 90) || (nat_le 97 b && nat_le b 122)) (b == 95) is)
  where
    on : ((nat_le 65 b && nat_le b 90) ≡ true) ⊎ ((nat_le 97 b && nat_le b 122) ≡ true) → is_printable b ≡ true
    on (inl e) = between 65 90 b (omega arith) (omega arith) e
    on (inr e) = between 97 122 b (omega arith) (omega arith) e

    by : (((nat_le 65 b && nat_le b 90) || (nat_le 97 b && nat_le b 122)) ≡ true) ⊎ ((b == 95) ≡ true) → is_printable b ≡ true
    by (inl e) = on (or_cases (nat_le 65 b && nat_le b 90) (nat_le 97 b && nat_le b 122) e)
    by (inr e) = exact b 95 refl e

digit : (b : ℕ) → is_digit b ≡ true → is_printable b ≡ true
digit b is = between 48 57 b (omega arith) (omega arith) is

of_word : (b : ℕ) → is_in class.Letters b ≡ true → is_printable b ≡ true
of_word b is = by (or_cases (is_letter b) (is_digit b) is)
  where
    by : (is_letter b ≡ true) ⊎ (is_digit b ≡ true) → is_printable b ≡ true
    by (inl e) = letter b e
    by (inr e) = digit b e

-- the bytes of a class at the front
front_of : (p : ℕ → Bool) → ((b : ℕ) → p b ≡ true → is_printable b ≡ true) → (z : Text) → ArePrintable (take (prefix_len p z) z)
front_of p each [] = refl
front_of p each (b ∷ z) = by (p b) refl (front_of p each z)
  where
    by : (t : Bool) → p b ≡ t → ArePrintable (take (prefix_len p z) z) → ArePrintable (take (prefix_len p (b ∷ z)) (b ∷ z))
    by true is ih = let e : 1 + prefix_len p z ≡ suc (prefix_len p z) = omega arith in rw is (rw e (rw (each b is, ih) refl))
    by false is ih = rw is refl

some_front : (p : ℕ → Bool) (b : ℕ) (z : Text) → p b ≡ true → 1 ≤ prefix_len p (b ∷ z)
some_front p b z is = rw is (omega arith)

-- ---- texts

quoted_printable : (t : Text) → ArePrintable t → ArePrintable (flat_map quoted t)
quoted_printable [] all = refl
quoted_printable (b ∷ t) all =
    let parts = and_parts (is_printable b) (list_all is_printable t) all in
    list_all-append is_printable (quoted b) (flat_map quoted t) ∙ rw (one (b == 39) parts.0, quoted_printable t parts.1) refl
  where
    one : (e : Bool) → is_printable b ≡ true → list_all is_printable (cond e (39 ∷ 39 ∷ []) (b ∷ [])) ≡ true
    one true good = refl
    one false good = rw good refl

-- ---- a token

-- a token that was found has some bytes, all of them printable
record IsGood (z : Text) (n : ℕ) : Type 0 where
  some : 1 ≤ n
  good : ArePrintable (take n z)

abbrev found_as : Word → ℕ → Found
found_as w n = Ok (w, n)

abbrev len_or : ℕ → Found → ℕ
len_or d (Ok r) = r.1
len_or d (Err e) = d

abbrev word_or : Word → Found → Word
word_or d (Ok r) = r.0
word_or d (Err e) = d

word_of_found : (z : Text) (w : Word) (n m : ℕ) (v : Word) → 1 ≤ m → ArePrintable (take m z) → found_as v m ≡ found_as w n → IsGood z n
word_of_found z w n m v some good is =
    let same : m ≡ n = ap (len_or 0) is in
    subst (IsGood z) same (record { some = some; good = good })

number_len : (m : ℕ) (o : Option ℕ) (w : Word) (n : ℕ) → number_of m o ≡ Ok (w, n) → m ≡ n
number_len m (Some value) w n is = ap (len_or 0) is
number_len m None w n is = absurd cc

text_found : (z : Text) (o : Option (Text × ℕ)) (w : Word) (n : ℕ) → text_of z o ≡ Ok (w, n) → (t : Text) × (w ≡ word.Text t) × (are_printable t ≡ true)
text_found z None w n is = absurd cc
text_found z (Some r) w n is = by (are_printable r.0) refl is
  where
    by : (b : Bool) → are_printable r.0 ≡ b → cond b (found_as (word.Text r.0) r.1) (Err (misfit.Bad (1 + run class.Printable z))) ≡ Ok (w, n) → (t : Text) × (w ≡ word.Text t) × (are_printable t ≡ true)
    by true good e = (r.0, sym (ap (word_or w) e), good)
    by false good e = absurd cc

text_good : (z : Text) (t : Text) (n : ℕ) → take n z ≡ quoted_text t → are_printable t ≡ true → IsGood z n
unfolding are_printable
text_good z t zero is good = absurd cc
text_good z t (suc n) is good =
    let inner : list_all is_printable (flat_map quoted t ++ 39 ∷ []) ≡ true = list_all-append is_printable (flat_map quoted t) (39 ∷ []) ∙ rw (quoted_printable t good) refl in
    record { some = omega arith; good = ap (list_all is_printable) is ∙ inner }

pair_bytes : (b c : ℕ) → is_pair b c ≡ true → (is_printable b ≡ true) × (is_printable c ≡ true)
unfolding is_pair
pair_bytes b c is = by (or_cases (b == 60 && (c == 61 || c == 62)) (b == 62 && c == 61) is)
  where
    on : ((c == 61) ≡ true) ⊎ ((c == 62) ≡ true) → is_printable c ≡ true
    on (inl e) = exact c 61 refl e
    on (inr e) = exact c 62 refl e

    by : ((b == 60 && (c == 61 || c == 62)) ≡ true) ⊎ ((b == 62 && c == 61) ≡ true) → (is_printable b ≡ true) × (is_printable c ≡ true)
    by (inl e) = let parts = and_parts (b == 60) (c == 61 || c == 62) e in (exact b 60 refl parts.0, on (or_cases (c == 61) (c == 62) parts.1))
    by (inr e) = let parts = and_parts (b == 62) (c == 61) e in (exact b 62 refl parts.0, exact c 61 refl parts.1)

single_byte : (b : ℕ) → is_single b ≡ true → is_printable b ≡ true
unfolding is_single
single_byte b is = by (or_cases (nat_le 40 b && nat_le b 45) (nat_le 58 b && nat_le b 62) is)
  where
    by : ((nat_le 40 b && nat_le b 45) ≡ true) ⊎ ((nat_le 58 b && nat_le b 62) ≡ true) → is_printable b ≡ true
    by (inl e) = between 40 45 b (omega arith) (omega arith) e
    by (inr e) = between 58 62 b (omega arith) (omega arith) e

two_bytes : (b : ℕ) (z : Text) → is_pair b (first z) ≡ true → ArePrintable (take 2 (b ∷ z))
two_bytes b [] is = rw (pair_bytes b 0 is).0 refl
two_bytes b (c ∷ z) is = let parts = pair_bytes b c is in rw (parts.0, parts.1) refl

mark_good : (b : ℕ) (z : Text) (w : Word) (n : ℕ) → mark_at (b ∷ z) ≡ Ok (w, n) → IsGood (b ∷ z) n
unfolding mark_at
mark_good b z w n is = by (is_pair b (first z)) (is_single b) refl refl is
  where
    by : (p s : Bool) → is_pair b (first z) ≡ p → is_single b ≡ s → cond p (found_as (word.Mark b (first z)) 2) (cond s (found_as (word.Mark b 0) 1) (Err (misfit.Bad 0))) ≡ Ok (w, n) → IsGood (b ∷ z) n
    by true s at _ e = word_of_found (b ∷ z) w n 2 (word.Mark b (first z)) (omega arith) (two_bytes b z at) e
    by false true _ at e = word_of_found (b ∷ z) w n 1 (word.Mark b 0) (omega arith) (rw (single_byte b at) refl) e
    by false false _ _ e = absurd cc

token_good : (z : Text) (w : Word) (n : ℕ) → front z ≡ Ok (w, n) → IsGood z n
unfolding front begins run number_at word_at text_at mark_at
token_good [] w n is = absurd cc
token_good (b ∷ z) w n is = by (is_in class.Digits b) (is_in class.Letters b) (is_in class.Quote b) refl refl is
  where
    by : (d l q : Bool) → is_in class.Digits b ≡ d → is_in class.Letters b ≡ l
        → cond d (number_at (b ∷ z)) (cond l (word_at (b ∷ z)) (cond q (text_at (b ∷ z)) (mark_at (b ∷ z)))) ≡ Ok (w, n) → IsGood (b ∷ z) n
    by true l q at _ e =
        let m = prefix_len (is_in class.Digits) (b ∷ z) in
        let same = number_len m (number (take m (b ∷ z))) w n e in
        subst (IsGood (b ∷ z)) same (record { some = some_front (is_in class.Digits) b z at; good = front_of (is_in class.Digits) digit (b ∷ z) })
    by false true q _ at e =
        word_of_found (b ∷ z) w n (prefix_len (is_in class.Letters) (b ∷ z)) _ (some_front (is_in class.Letters) b z at) (front_of (is_in class.Letters) of_word (b ∷ z)) e
    by false false true _ _ e =
        let t = text_found z (text_from false [] 1 z) w n e in
        let written = (front_stands (b ∷ z) w n is).0 in
        text_good (b ∷ z) t.0 n (subst (λ v. IsWritten v (take n (b ∷ z))) t.1 written) t.2
    by false false false _ _ e = mark_good b z w n e

-- ---- a line

no_number : (m : ℕ) (o : Option ℕ) → ¬ (number_of m o ≡ Err misfit.NoMemory)
no_number m (Some value) is = absurd cc
no_number m None is = absurd cc

no_text : (z : Text) (o : Option (Text × ℕ)) → ¬ (text_of z o ≡ Err misfit.NoMemory)
no_text z None is = absurd cc
no_text z (Some r) is = by (are_printable r.0) is
  where
    by : (b : Bool) → ¬ (cond b (found_as (word.Text r.0) r.1) (Err (misfit.Bad (1 + run class.Printable z))) ≡ Err misfit.NoMemory)
    by true e = absurd cc
    by false e = absurd cc

never_memory : (b : ℕ) (z : Text) → ¬ (front (b ∷ z) ≡ Err misfit.NoMemory)
unfolding front number_at word_at text_at mark_at
never_memory b z is = by (begins class.Digits (b ∷ z)) (begins class.Letters (b ∷ z)) (begins class.Quote (b ∷ z)) (is_pair b (first z)) (is_single b) is
  where
    by : (d l q p s : Bool)
        → ¬ (cond d (number_at (b ∷ z)) (cond l (word_at (b ∷ z)) (cond q (text_at (b ∷ z)) (cond p (found_as (word.Mark b (first z)) 2) (cond s (found_as (word.Mark b 0) 1) (Err (misfit.Bad 0)))))) ≡ Err misfit.NoMemory)
    by true l q p s e = let m = run class.Digits (b ∷ z) in no_number m (number (take m (b ∷ z))) e
    by false true q p s e = absurd cc
    by false false true p s e = no_text z (text_from false [] 1 z) e
    by false false false true s e = absurd cc
    by false false false false true e = absurd cc
    by false false false false false e = absurd cc

scan_good : (z : Text) (found : List Token) (left at : ℕ) (ts : List Token) → scan_from found left at z ≡ (ts, None) → ArePrintable (take left z) → ArePrintable z
scan_good [] found left at ts is good = refl
scan_good (b ∷ z) found (suc left) at ts is good =
    let parts = and_parts (is_printable b) (list_all is_printable (take left z)) good in
    rw (parts.0, scan_good z found left (at + 1) ts is parts.1) refl
scan_good (b ∷ z) found zero at ts is good = by (b == 32) refl is (λ longer left. scan_good z longer left (at + 1) ts)
  where
    more : List Token → ℕ → Scan
    more longer left = scan_from longer left (at + 1) z

    behind : (n : ℕ) → IsGood (b ∷ z) n → (is_printable b ≡ true) × ArePrintable (take (n - 1) z)
    behind zero g = let e = g.some in absurd (omega arith)
    behind (suc n) g =
        let parts = and_parts (is_printable b) (list_all is_printable (take n z)) g.good in
        let e : n ≡ suc n - 1 = omega arith in
        (parts.0, subst (λ k. ArePrintable (take k z)) e parts.1)

    on : (r : Found) → front (b ∷ z) ≡ r → scan_on found at more r ≡ (ts, None)
        → ((longer : List Token) (left : ℕ) → more longer left ≡ (ts, None) → ArePrintable (take left z) → ArePrintable z) → ArePrintable (b ∷ z)
    on (Ok r) token_is e ih =
        let good = behind r.1 (token_good (b ∷ z) r.0 r.1 token_is) in
        rw (good.0, ih (found ++ token at r ∷ []) (r.1 - 1) e good.1) refl
    on (Err (misfit.Bad n)) token_is e ih = let bad = ap (λ (s : Scan). s.1) e in absurd cc
    on (Err misfit.Open) token_is e ih = let bad = ap (λ (s : Scan). s.1) e in absurd cc
    on (Err misfit.NoMemory) token_is e ih = absurd (never_memory b z token_is)

    by : (t : Bool) → (b == 32) ≡ t → cond t (more found 0) (scan_on found at more (front (b ∷ z))) ≡ (ts, None)
        → ((longer : List Token) (left : ℕ) → more longer left ≡ (ts, None) → ArePrintable (take left z) → ArePrintable z) → ArePrintable (b ∷ z)
    by true space e ih = rw (exact b 32 refl space, ih found 0 e refl) refl
    by false space e ih = on (front (b ∷ z)) refl e ih

scan_whole : (s : Scan) (ts : List Token) → tokens_by s.0 s.1 ≡ Ok ts → s.1 ≡ None
scan_whole (found, None) ts is = refl
scan_whole (found, Some (scan_fault.BadByte from place)) ts is = absurd cc
scan_whole (found, Some (scan_fault.OpenText place)) ts is = absurd cc

-- a line that is tokens to its end
pub tokens_printable : (line : Text) (ts : List Token) → tokens line ≡ Ok ts → are_printable line ≡ true
unfolding tokens scan are_printable
tokens_printable line ts is =
    let s = scan_from [] 0 0 line in
    scan_good line [] 0 0 s.0 (ap (λ o. (s.0, o)) (scan_whole s ts is)) refl
