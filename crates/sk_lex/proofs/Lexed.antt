-- The words of a printed line are read as they were printed.
use Rattle.std.proofs.Common.{◌≡◌, ◌≢◌, ℕ, zero, suc, ◌+◌, ◌-◌, ◌*◌, ◌/◌, ◌%◌, ◌^◌, ◌<◌, ◌≤◌, Bool, true, false, cond, not, ◌&&◌, ◌||◌, ◌==◌, nat_lt, List, [], ◌∷◌, ◌++◌, append_assoc, append-nil, take, length, length-append, map, slice_index, ◌⊎◌, inl, inr, Option, Some, None, refl, sym, ap, subst, ◌∙◌, arith}
use Rattle.std.specs.Prelude.{Ok, Err, is_none}
use Rattle.std.specs.List.{flat_map, list_all, prefix_len}
use Rattle.std.proofs.lemmas.Bool.{and_parts, eqb-true, lt-ltb, ltb-true}
use Rattle.std.proofs.lemmas.Bool.Decides.{nat_tests}
use Rattle.std.proofs.Math.Seq.{take-append_seam, drop-append_seam}
use Rattle.std.proofs.lemmas.List.Folds.{list_all-append}
use native.Mathlib.Numerals.{unary_clauses}
use Rattle.sk_rows.specs.Text.{are_printable}
use Rattle.sk_lex.specs.declared.front.Class.{Class}
use Rattle.sk_lex.specs.declared.front.Class.TheVariants as class
use Rattle.sk_lex.specs.declared.front.Misfit.TheVariants as misfit
use Rattle.sk_lex.specs.declared.token.Keyword.{Keyword}
use Rattle.sk_lex.specs.declared.token.Keyword.TheVariants as key
use Rattle.sk_lex.specs.declared.token.Token.{Token}
use Rattle.sk_lex.specs.declared.token.Word.{Word}
use Rattle.sk_lex.specs.declared.token.Word.TheVariants as word
use Rattle.sk_lex.specs.Front.{Text, amount, begins, first, front, is_in, is_pair, is_single, keyword, mark_at, number, number_at, number_of, run, text_at, text_from, text_of, word_at, word_of}
use Rattle.sk_lex.specs.Laws.{IsLexed, words_of}
use Rattle.sk_lex.specs.Scanning.{Scan, scan, scan_from, token, tokens, tokens_by}
use Rattle.sk_lex.specs.Spelling.{can_be_spelled, digits, is_word, joined, key_text, mark_text, quoted, quoted_text, spell, spelled}
use Rattle.sk_lex.proofs.Scans.{scan_goes}
use Rattle.sk_lex.specs.Marks as mark

-- ---- what may follow a printed word

record Behind (rest : Text) : Type 0 where
  letters : begins class.Letters rest ≡ false
  digits : begins class.Digits rest ≡ false
  quote : begins class.Quote rest ≡ false
  pair : (a : ℕ) → is_pair a (first rest) ≡ false

no_pair_of : (a c : ℕ) → (c == 61) ≡ false → (c == 62) ≡ false → is_pair a c ≡ false
unfolding is_pair
no_pair_of a c e f = by (a == 60) (a == 62)
  where
    by : (s t : Bool) → ((s && (c == 61 || c == 62)) || (t && c == 61)) ≡ false
    by true true = rw (e, f) refl
    by true false = rw (e, f) refl
    by false true = e
    by false false = refl

behind : (ws : List Word) → Behind (spelled ws)
unfolding spelled begins
behind [] = record { letters = refl; digits = refl; quote = refl; pair = λ a. no_pair_of a 0 refl refl }
behind (w ∷ ws) = record { letters = refl; digits = refl; quote = refl; pair = λ a. no_pair_of a 32 refl refl }

-- ---- runs

run_nothing : (c : Class) (z : Text) → begins c z ≡ false → prefix_len (is_in c) z ≡ 0
unfolding begins
run_nothing c [] is = refl
run_nothing c (b ∷ z) is = ap (λ t. cond t (1 + prefix_len (is_in c) z) 0) is

run_all : (c : Class) (s rest : Text) → list_all (is_in c) s ≡ true → begins c rest ≡ false → prefix_len (is_in c) (s ++ rest) ≡ length s
run_all c [] rest all stops = run_nothing c rest stops
run_all c (b ∷ s) rest all stops =
    let parts = and_parts (is_in c b) (list_all (is_in c) s) all in
    let more = run_all c s rest parts.1 stops in
    ap (λ t. cond t (1 + prefix_len (is_in c) (s ++ rest)) 0) parts.0 ∙ omega (arith, more)

-- ---- words

word_front : (s rest : Text) → is_word s ≡ true → begins class.Letters rest ≡ false → front (s ++ rest) ≡ Ok (word_of s (keyword s), length s)
unfolding front word_at run is_word begins
word_front [] rest is stops = absurd cc
word_front (b ∷ s) rest is stops =
    let parts = and_parts (is_in class.Letters b && not (is_in class.Digits b)) (list_all (is_in class.Letters) (b ∷ s)) is in
    let front_parts = and_parts (is_in class.Letters b) (not (is_in class.Digits b)) parts.0 in
    let digit : is_in class.Digits b ≡ false = is_not (is_in class.Digits b) front_parts.1 in
    let len : prefix_len (is_in class.Letters) (b ∷ s ++ rest) ≡ length (b ∷ s) = run_all class.Letters (b ∷ s) rest parts.1 stops in
    let text : take (length (b ∷ s)) (b ∷ s ++ rest) ≡ b ∷ s = take-append_seam (b ∷ s) rest in
    ap (λ t. cond t (number_at (b ∷ s ++ rest)) (cond (is_in class.Letters b) (word_at (b ∷ s ++ rest)) (cond (is_in class.Quote b) (text_at (b ∷ s ++ rest)) (mark_at (b ∷ s ++ rest))))) digit
    ∙ ap (λ t. cond t (word_at (b ∷ s ++ rest)) (cond (is_in class.Quote b) (text_at (b ∷ s ++ rest)) (mark_at (b ∷ s ++ rest)))) front_parts.0
    ∙ ap (λ n. Ok (word_of (take n (b ∷ s ++ rest)) (keyword (take n (b ∷ s ++ rest))), n)) len
    ∙ ap (λ t. Ok (word_of t (keyword t), length (b ∷ s))) text
  where
    is_not : (t : Bool) → not t ≡ true → t ≡ false
    is_not true e = absurd cc
    is_not false e = refl

key_is_word : (k : Keyword) → is_word (key_text k) ≡ true
unfolding is_word key_text begins
key_is_word key.Table = refl
key_is_word key.Set = refl
key_is_word key.Memory = refl
key_is_word key.Storage = refl
key_is_word key.Int = refl
key_is_word key.Text = refl
key_is_word key.Bool = refl
key_is_word key.Step = refl
key_is_word key.Flush = refl
key_is_word key.Checkpoint = refl
key_is_word key.Stop = refl
key_is_word key.Begin = refl
key_is_word key.Commit = refl
key_is_word key.Rollback = refl
key_is_word key.Insert = refl
key_is_word key.Into = refl
key_is_word key.Values = refl
key_is_word key.Select = refl
key_is_word key.From = refl
key_is_word key.Where = refl
key_is_word key.Update = refl
key_is_word key.Delete = refl
key_is_word key.Or = refl
key_is_word key.And = refl
key_is_word key.Not = refl
key_is_word key.True = refl
key_is_word key.False = refl

key_read : (k : Keyword) → keyword (key_text k) ≡ Some k
unfolding keyword key_text
key_read key.Table = refl
key_read key.Set = refl
key_read key.Memory = refl
key_read key.Storage = refl
key_read key.Int = refl
key_read key.Text = refl
key_read key.Bool = refl
key_read key.Step = refl
key_read key.Flush = refl
key_read key.Checkpoint = refl
key_read key.Stop = refl
key_read key.Begin = refl
key_read key.Commit = refl
key_read key.Rollback = refl
key_read key.Insert = refl
key_read key.Into = refl
key_read key.Values = refl
key_read key.Select = refl
key_read key.From = refl
key_read key.Where = refl
key_read key.Update = refl
key_read key.Delete = refl
key_read key.Or = refl
key_read key.And = refl
key_read key.Not = refl
key_read key.True = refl
key_read key.False = refl

none : {A : Type 0} (o : Option A) → is_none o ≡ true → o ≡ None
none (Some x) is = absurd cc
none None is = refl

-- ---- numbers

amount_last : (n : ℕ) (s : Text) (b : ℕ) → amount n (s ++ b ∷ []) ≡ amount n s * 10 + (b - 48)
amount_last n [] b = refl
amount_last n (c ∷ s) b = amount_last (n * 10 + (c - 48)) s b

tenth : (n : ℕ) → n / 10 * 10 + (48 + n % 10 - 48) ≡ n
tenth n = omega arith

small_tenth : (n m : ℕ) → n < m * 10 → n / 10 < m
small_tenth n m less = omega arith

digits_amount : (k n : ℕ) → n < 10 ^ k → amount 0 (digits k n) ≡ n
unfolding digits
digits_amount zero n less = omega arith
digits_amount (suc k) n less =
    by (nat_lt n 10) refl (digits_amount k (n / 10) (small_tenth n (10 ^ k) (simp unary_clauses at less)))
  where
    by : (t : Bool) → nat_lt n 10 ≡ t → amount 0 (digits k (n / 10)) ≡ n / 10 → amount 0 (cond t [] (digits k (n / 10)) ++ (48 + n % 10) ∷ []) ≡ n
    by true small ih = let few = ltb-true n 10 small in amount_last 0 [] (48 + n % 10) ∙ omega arith
    by false small ih = amount_last 0 (digits k (n / 10)) (48 + n % 10) ∙ ap (λ x. x * 10 + (48 + n % 10 - 48)) ih ∙ tenth n

last_digit : (n : ℕ) → is_in class.Digits (48 + n % 10) ≡ true
last_digit n = let few : n % 10 < 10 = omega arith in grind (arith, nat_tests)

digits_all : (k n : ℕ) → list_all (is_in class.Digits) (digits k n) ≡ true
unfolding digits
digits_all zero n = refl
digits_all (suc k) n = by (nat_lt n 10) (digits_all k (n / 10))
  where
    by : (t : Bool) → list_all (is_in class.Digits) (digits k (n / 10)) ≡ true → list_all (is_in class.Digits) (cond t [] (digits k (n / 10)) ++ (48 + n % 10) ∷ []) ≡ true
    by true ih = rw (last_digit n) refl
    by false ih = list_all-append (is_in class.Digits) (digits k (n / 10)) ((48 + n % 10) ∷ []) ∙ rw (ih, last_digit n) refl

digits_some : (k n : ℕ) → 1 ≤ length (digits (suc k) n)
unfolding digits
digits_some k n = let e = length-append (cond (nat_lt n 10) [] (digits k (n / 10))) ((48 + n % 10) ∷ []) in omega (arith, e)

digits_front : (s rest : Text) (n : ℕ) → 1 ≤ length s → list_all (is_in class.Digits) s ≡ true → amount 0 s ≡ n → n < 2 ^ 64 → begins class.Digits rest ≡ false
    → front (s ++ rest) ≡ Ok (word.Number n, length s)
unfolding front number_at number run begins
digits_front [] rest n some all is small stops = absurd (omega arith)
digits_front (b ∷ s) rest n some all is small stops =
    let parts = and_parts (is_in class.Digits b) (list_all (is_in class.Digits) s) all in
    let z = b ∷ s ++ rest in
    let len : prefix_len (is_in class.Digits) z ≡ length (b ∷ s) = run_all class.Digits (b ∷ s) rest all stops in
    let text : take (length (b ∷ s)) z ≡ b ∷ s = take-append_seam (b ∷ s) rest in
    ap (λ t. cond t (number_at z) (cond (is_in class.Letters b) (word_at z) (cond (is_in class.Quote b) (text_at z) (mark_at z)))) parts.0
    ∙ ap (λ m. number_of m (number (take m z))) len
    ∙ ap (λ t. number_of (length (b ∷ s)) (number t)) text
    ∙ ap (λ m. number_of (length (b ∷ s)) (cond (nat_lt m (2 ^ 64)) (Some m) None)) is
    ∙ ap (λ t. number_of (length (b ∷ s)) (cond t (Some n) None)) (lt-ltb n (2 ^ 64) small)

-- ---- texts

abbrev Reads : Option (Text × ℕ) → Text → ℕ → Type 0
Reads o t n = o ≡ Some (t, n)

adjusted : (o : Option (Text × ℕ)) (t u : Text) (n m : ℕ) → t ≡ u → n ≡ m → Reads o t n → Reads o u m
adjusted o t u n m same_text same_len is = subst (λ k. Reads o u k) same_len (subst (λ x. Reads o x n) same_text is)

text_read : (found : Text) (at : ℕ) (t rest : Text) → begins class.Quote rest ≡ false
    → Reads (text_from false found at (flat_map quoted t ++ 39 ∷ rest)) (found ++ t) (at + length (flat_map quoted t) + 1)
unfolding begins
text_read found at [] [] stops = adjusted (Some (found, at + 1)) found (found ++ []) (at + 1) (at + 0 + 1) (sym (append-nil found)) (omega arith) refl
text_read found at [] (b ∷ rest) stops =
    adjusted _ found (found ++ []) (at + 1) (at + 0 + 1) (sym (append-nil found)) (omega arith)
    (ap (λ t. cond t (text_from false (found ++ 39 ∷ []) (at + 1 + 1) rest) (Some (found, at + 1))) stops)
text_read found at (b ∷ t) rest stops = by (b == 39) refl (text_read (found ++ b ∷ []) (at + 1) t rest stops) (text_read (found ++ 39 ∷ []) (at + 1 + 1) t rest stops)
  where
    by : (q : Bool) → (b == 39) ≡ q
        → Reads (text_from false (found ++ b ∷ []) (at + 1) (flat_map quoted t ++ 39 ∷ rest)) ((found ++ b ∷ []) ++ t) (at + 1 + length (flat_map quoted t) + 1)
        → Reads (text_from false (found ++ 39 ∷ []) (at + 1 + 1) (flat_map quoted t ++ 39 ∷ rest)) ((found ++ 39 ∷ []) ++ t) (at + 1 + 1 + length (flat_map quoted t) + 1)
        → Reads (text_from false found at ((cond q (39 ∷ 39 ∷ []) (b ∷ []) ++ flat_map quoted t) ++ 39 ∷ rest)) (found ++ b ∷ t) (at + length (cond q (39 ∷ 39 ∷ []) (b ∷ []) ++ flat_map quoted t) + 1)
    by true is plain double =
        let byte : b ≡ 39 = eqb-true b 39 is in
        adjusted _ ((found ++ 39 ∷ []) ++ t) (found ++ b ∷ t) _ _ (append_assoc found (39 ∷ []) t ∙ ap (λ x. found ++ x ∷ t) (sym byte)) (omega arith) double
    by false is plain double =
        ap (λ q. cond q (text_from true found (at + 1) (flat_map quoted t ++ 39 ∷ rest)) (text_from false (found ++ b ∷ []) (at + 1) (flat_map quoted t ++ 39 ∷ rest))) is
        ∙ adjusted _ ((found ++ b ∷ []) ++ t) (found ++ b ∷ t) _ _ (append_assoc found (b ∷ []) t) (omega arith) plain

text_front : (t rest : Text) → are_printable t ≡ true → begins class.Quote rest ≡ false → front (quoted_text t ++ rest) ≡ Ok (word.Text t, length (quoted_text t))
unfolding front text_at begins
text_front t rest printable stops =
    let y : (flat_map quoted t ++ 39 ∷ []) ++ rest ≡ flat_map quoted t ++ 39 ∷ rest = append_assoc (flat_map quoted t) (39 ∷ []) rest in
    let len : 1 + length (flat_map quoted t) + 1 ≡ length (quoted_text t) = let e = length-append (flat_map quoted t) (39 ∷ []) in omega (arith, e) in
    let read : Reads (text_from false [] 1 ((flat_map quoted t ++ 39 ∷ []) ++ rest)) t (length (quoted_text t)) =
    ap (text_from false [] 1) y ∙ adjusted _ t t _ _ refl len (text_read [] 1 t rest stops) in
    ap (text_of ((flat_map quoted t ++ 39 ∷ []) ++ rest)) read
    ∙ ap (λ ok. cond ok (Ok (word.Text t, length (quoted_text t))) (Err (misfit.Bad (1 + run class.Printable ((flat_map quoted t ++ 39 ∷ []) ++ rest))))) printable

-- ---- marks

single_class : (c : Class) (a : ℕ) → is_single a ≡ true → is_in c a ≡ true → c ≡ class.Printable
unfolding is_single
single_class class.Letters a is in_class = absurd (grind (arith, nat_tests))
single_class class.Digits a is in_class = absurd (grind (arith, nat_tests))
single_class class.Quote a is in_class = absurd (grind (arith, nat_tests))
single_class class.Printable a is in_class = refl

not_in : (c : Class) (a : ℕ) → ¬ (c ≡ class.Printable) → is_single a ≡ true → is_in c a ≡ false
not_in c a other is = by (is_in c a) refl
  where
    by : (t : Bool) → is_in c a ≡ t → t ≡ false
    by true at = absurd (other (single_class c a is at))
    by false at = refl

single_front : (a : ℕ) (rest : Text) → is_single a ≡ true → is_pair a (first rest) ≡ false → front (a ∷ rest) ≡ Ok (word.Mark a 0, 1)
unfolding front mark_at begins
single_front a rest is none =
    let z = a ∷ rest in
    ap (λ t. cond t (number_at z) (cond (is_in class.Letters a) (word_at z) (cond (is_in class.Quote a) (text_at z) (mark_at z)))) (not_in class.Digits a (λ e. cc) is)
    ∙ ap (λ t. cond t (word_at z) (cond (is_in class.Quote a) (text_at z) (mark_at z))) (not_in class.Letters a (λ e. cc) is)
    ∙ ap (λ t. cond t (text_at z) (mark_at z)) (not_in class.Quote a (λ e. cc) is)
    ∙ ap (λ t. cond t (Ok (word.Mark a (first rest), 2)) (cond (is_single a) (Ok (word.Mark a 0, 1)) (Err (misfit.Bad 0)))) none
    ∙ ap (λ t. cond t (Ok (word.Mark a 0, 1)) (Err (misfit.Bad 0))) is

pair_first : (a b : ℕ) → is_pair a b ≡ true → (a ≡ 60) ⊎ (a ≡ 62)
unfolding is_pair
pair_first a b is = by (a == 60) (a == 62) refl refl is
  where
    by : (s t : Bool) → (a == 60) ≡ s → (a == 62) ≡ t → ((s && (b == 61 || b == 62)) || (t && b == 61)) ≡ true → (a ≡ 60) ⊎ (a ≡ 62)
    by true t at _ e = inl (eqb-true a 60 at)
    by false true _ at e = inr (eqb-true a 62 at)
    by false false _ _ e = absurd cc

pair_front : (a b : ℕ) (rest : Text) → is_pair a b ≡ true → front (a ∷ b ∷ rest) ≡ Ok (word.Mark a b, 2)
unfolding front mark_at begins
pair_front a b rest is = elim (pair_first a b is) [
  | inl less ↦ subst (λ x. front (x ∷ b ∷ rest) ≡ Ok (word.Mark x b, 2)) (sym less) (at_less (subst (λ x. is_pair x b ≡ true) less is))
  | inr more ↦ subst (λ x. front (x ∷ b ∷ rest) ≡ Ok (word.Mark x b, 2)) (sym more) (at_more (subst (λ x. is_pair x b ≡ true) more is))
]
  where
    at_less : is_pair 60 b ≡ true → front (60 ∷ b ∷ rest) ≡ Ok (word.Mark 60 b, 2)
    at_less e = ap (λ t. cond t (Ok (word.Mark 60 b, 2)) (cond (is_single 60) (Ok (word.Mark mark.less mark.none, 1)) (Err (misfit.Bad 0)))) e

    at_more : is_pair 62 b ≡ true → front (62 ∷ b ∷ rest) ≡ Ok (word.Mark 62 b, 2)
    at_more e = ap (λ t. cond t (Ok (word.Mark 62 b, 2)) (cond (is_single 62) (Ok (word.Mark mark.greater mark.none, 1)) (Err (misfit.Bad 0)))) e

mark_front : (a b : ℕ) (rest : Text) → can_be_spelled (word.Mark a b) ≡ true → Behind rest → front (mark_text a b ++ rest) ≡ Ok (word.Mark a b, length (mark_text a b))
mark_front a b rest is stops = by (b == 0) refl is
  where
    by : (t : Bool) → (b == 0) ≡ t → cond t (is_single a) (is_pair a b) ≡ true → front (cond t (a ∷ []) (a ∷ b ∷ []) ++ rest) ≡ Ok (word.Mark a b, length (cond t (a ∷ []) (a ∷ b ∷ [])))
    by true at e = single_front a rest e (stops.pair a) ∙ ap (λ x. Ok (word.Mark a x, 1)) (sym (eqb-true b 0 at))
    by false at e = pair_front a b rest e

-- ---- all of them

front_spelled : (w : Word) (rest : Text) → can_be_spelled w ≡ true → Behind rest → front (spell w ++ rest) ≡ Ok (w, length (spell w))
front_spelled (word.Key k) rest is stops =
    word_front (key_text k) rest (key_is_word k) stops.letters ∙ ap (λ o. Ok (word_of (key_text k) o, length (key_text k))) (key_read k)
front_spelled (word.Name t) rest is stops =
    let parts = and_parts (is_word t) (is_none (keyword t)) is in
    word_front t rest parts.0 stops.letters ∙ ap (λ o. Ok (word_of t o, length t)) (none (keyword t) parts.1)
front_spelled (word.Number n) rest is stops =
    let small = ltb-true n (2 ^ 64) is in
    digits_front (digits 20 n) rest n (digits_some 19 n) (digits_all 20 n) (digits_amount 20 n (omega arith)) small stops.digits
front_spelled (word.Text t) rest is stops = text_front t rest is stops.quote
front_spelled (word.Mark a b) rest is stops = mark_front a b rest is stops

-- a token begins with no space
not_blank : (y : Text) (r : Word × ℕ) → ¬ (front (32 ∷ y) ≡ Ok r)
unfolding front mark_at begins is_pair is_single
not_blank y r is = cc

not_nothing : (r : Word × ℕ) → ¬ (front [] ≡ Ok r)
unfolding front mark_at begins
not_nothing r is = cc

no_space : (z : Text) (r : Word × ℕ) → front z ≡ Ok r → slice_index z 0 ≢ 32
no_space [] r is = λ e. not_nothing r is
no_space (b ∷ y) r is = λ e. not_blank y r (subst (λ x. front (x ∷ y) ≡ Ok r) e is)

word_some : (s : Text) → is_word s ≡ true → 1 ≤ length s
unfolding is_word begins
word_some [] is = absurd cc
word_some (b ∷ s) is = omega arith

some_bytes : (w : Word) → can_be_spelled w ≡ true → 1 ≤ length (spell w)
some_bytes (word.Key k) is = word_some (key_text k) (key_is_word k)
some_bytes (word.Name t) is = word_some t (and_parts (is_word t) (is_none (keyword t)) is).0
some_bytes (word.Number n) is = digits_some 19 n
some_bytes (word.Text t) is = omega arith
some_bytes (word.Mark a b) is = by (b == 0)
  where
    by : (t : Bool) → 1 ≤ length (cond t (a ∷ []) (a ∷ b ∷ []))
    by true = omega arith
    by false = omega arith

-- behind a printed word
one_word : (found : List Token) (at : ℕ) (w : Word) (ws : List Word) → can_be_spelled w ≡ true
    → scan_from (found ++ token at (w, length (spell w)) ∷ []) 0 (at + length (spell w)) (spelled ws) ≡ scan_from found 0 at (spell w ++ spelled ws)
one_word found at w ws is =
    let z = spell w ++ spelled ws in
    let here = front_spelled w (spelled ws) is (behind ws) in
    let some = some_bytes w is in
    let long : 1 ≤ length z = let e = length-append (spell w) (spelled ws) in omega (arith, e, some) in
    ap (scan_from (found ++ token at (w, length (spell w)) ∷ []) 0 (at + length (spell w))) (sym (drop-append_seam (spell w) (spelled ws)))
    ∙ scan_goes found at z (w, length (spell w)) long (no_space z (w, length (spell w)) here) here some

abbrev Ends : Scan → List Token → Type 0
Ends s ts = s ≡ (ts, None)

abbrev Lexed : List Token → ℕ → Text → List Word → Type 0
Lexed found at z ws = (ts : List Token) × Ends (scan_from found 0 at z) (found ++ ts) × (map (λ t. t.word) ts ≡ ws)

scanned : (found : List Token) (at : ℕ) (w : Word) (ws : List Word) → list_all can_be_spelled (w ∷ ws) ≡ true → Lexed found at (spell w ++ spelled ws) (w ∷ ws)
unfolding spelled
scanned found at w [] all =
    let parts = and_parts (can_be_spelled w) true all in
    let goes = one_word found at w [] parts.0 in
    (token at (w, length (spell w)) ∷ [], sym goes, refl)
scanned found at w (v ∷ ws) all =
    let parts = and_parts (can_be_spelled w) (list_all can_be_spelled (v ∷ ws)) all in
    let t = token at (w, length (spell w)) in
    let goes = one_word found at w (v ∷ ws) parts.0 in
    let rest = scanned (found ++ t ∷ []) (at + length (spell w) + 1) v ws parts.1 in
    (t ∷ rest.0, sym goes ∙ subst (λ l. Ends (scan_from (found ++ t ∷ []) 0 (at + length (spell w) + 1) (spell v ++ spelled ws)) l) (append_assoc found (t ∷ []) rest.0) rest.1, ap (λ l. w ∷ l) rest.2)

lexed_line : (z : Text) (ws : List Word) → Lexed [] 0 z ws → words_of (tokens z) ≡ Ok ws
unfolding tokens scan
lexed_line z ws is = ap (λ s. words_of (tokens_by s.0 s.1)) is.1 ∙ ap (λ l. Ok l) is.2

pub lexed : IsLexed
unfolding joined
lexed [] all = lexed_line [] [] ([], refl, refl)
lexed (w ∷ ws) all = lexed_line (spell w ++ spelled ws) (w ∷ ws) (scanned [] 0 w ws all)
