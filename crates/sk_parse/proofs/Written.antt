-- The words that are printed can be spelled, and their bytes are printable.
use Rattle.std.proofs.Common.{◌≡◌, ◌≤◌, ◌<◌, ℕ, zero, suc, ◌+◌, ◌/◌, ◌%◌, ◌^◌, Bool, true, false, cond, ◌&&◌, ◌||◌, ◌==◌, List, [], ◌∷◌, ◌++◌, length, refl, sym, ap, subst, ◌∙◌, arith, Option, Some, None, drop, FitsSigned, w64}
use Rattle.std.specs.Prelude.{◌↔◌, nat_lt, nat_le, IsTrue, ℤ, pos, negsuc, is_none}
use Rattle.std.specs.List.{flat_map, list_all}
use Rattle.std.proofs.lemmas.Bool.{and_from, and_parts, le-leb, leb-true, ltb-true, lt-ltb}
use Rattle.std.proofs.lemmas.Bool.Decides.{nat_tests}
use Rattle.std.proofs.lemmas.List.Folds.{list_all-append}
use Rattle.std.proofs.lemmas.List.Sums.{AllPass-from_list_all, list_all-from_AllPass}
use Rattle.sk_lex.specs.declared.token.Keyword.{Keyword}
use Rattle.sk_lex.specs.declared.token.Keyword.TheVariants as key
use Rattle.sk_lex.specs.declared.token.Word.{Word}
use Rattle.sk_lex.specs.declared.token.Word.TheVariants as word
use Rattle.sk_lex.specs.Front.{is_digit, is_letter, is_pair, is_single, keyword}
use Rattle.sk_lex.specs.Spelling.{can_be_spelled as is_spelled_word, digits, is_word, joined, key_text, mark_text, quoted, quoted_text, spaced, spell, spelled}
use Rattle.sk_lex.proofs.Named.{name_is_word}
use Rattle.sk_rows.specs.Names.{is_name}
use Rattle.sk_rows.specs.Text.{ArePrintable, IsPrintable, are_printable, is_printable}
use Rattle.sk_rows.specs.declared.value.Value.{Value}
use Rattle.sk_rows.specs.declared.value.Value.TheVariants as value
use Rattle.sk_rows.specs.declared.expr.Op.{Op}
use Rattle.sk_rows.specs.declared.expr.Op.TheVariants as op
use Rattle.sk_rows.specs.declared.expr.Expr.{Expr, roll-Expr, map-Expr}
use Rattle.sk_rows.specs.declared.expr.Expr.TheOpen.{Expr-F}
use Rattle.sk_rows.specs.declared.expr.Expr.TheFolds.{fold-roll-Expr, ind-Expr}
use Rattle.sk_rows.specs.declared.statement.Begun.TheVariants as begun
use Rattle.sk_rows.specs.declared.statement.SetItem.{SetItem}
use Rattle.sk_rows.specs.declared.statement.Statement.{Statement}
use Rattle.sk_rows.specs.declared.statement.Statement.TheVariants as st
use Rattle.sk_lex.specs.Marks as mark
use Rattle.sk_parse.specs.Printed.{strength, left_at, right_at, op_word, literal_words, wrapped, print_step, printed, nesting, is_int, is_literal, is_text, spelled_step, can_be_spelled, more_words, listed_words, name_words, set_words, cond_words, shown_words, said_words, is_expression, is_condition, are_some, are_shown, is_set, can_be_printed}
use Rattle.sk_parse.specs.Spelled.{IsReadAs, said_text}
use Rattle.sk_parse.proofs.Said.{read_as}
use Rattle.sk_parse.proofs.Spelling.{is_said}

-- ---- the bytes of a word

byte_printable : (b : ℕ) → is_printable b ≡ true → IsPrintable b
byte_printable b is = grind (arith, nat_tests)

all_printable : (z : List ℕ) → are_printable z ≡ true → ArePrintable z
unfolding are_printable
all_printable z is = λ k d less. byte_printable _ (AllPass-from_list_all is_printable z is k d less)

unprintable : (b : ℕ) → IsPrintable b → is_printable b ≡ true
unprintable b is = grind (arith, nat_tests)

is_printable_all : (z : List ℕ) → ArePrintable z → are_printable z ≡ true
unfolding are_printable
is_printable_all z all = list_all-from_AllPass is_printable z (λ k d less. unprintable _ (all k d less))

-- a text's bytes are printable, so that its length alone is to be tested
pub are_printable_of : (z : List ℕ) (b : Bool) → ArePrintable z → b ≡ nat_le (length z) 255 → b ≡ is_text z
unfolding is_text
are_printable_of z true all is = sym (and_from (nat_le (length z) 255) (are_printable z) (sym is) (is_printable_all z all))
are_printable_of z false all is = is ∙ sym (rw (sym is, is) refl)

pub as_test : (b : Bool) (m n : ℕ) → IsTrue b ↔ (m ≤ n) → b ≡ nat_le m n
as_test true m n is = sym (le-leb m n (is.0 refl))
as_test false m n is = by (nat_le m n) refl
  where
    by : (t : Bool) → nat_le m n ≡ t → false ≡ t
    by true at = is.1 (leb-true m n at)
    by false at = refl

-- each number of 64 bits is a literal
pub each_int : (b : Bool) (z : ℤ) → b ≡ true → FitsSigned w64 z → b ≡ is_int z
each_int b (pos n) is fits = is ∙ sym (lt-ltb n 9223372036854775808 fits.sfits)
each_int b (negsuc n) is fits = is ∙ sym (lt-ltb n 9223372036854775808 fits.sfits)

printable-append : (a b : List ℕ) → are_printable a ≡ true → are_printable b ≡ true → are_printable (a ++ b) ≡ true
unfolding are_printable
printable-append a b p q = list_all-append is_printable a b ∙ and_from (list_all is_printable a) (list_all is_printable b) p q

abbrev is_word_byte : ℕ → Bool
is_word_byte b = is_letter b || is_digit b

letter_printable : (b : ℕ) → is_word_byte b ≡ true → is_printable b ≡ true
letter_printable b is = grind (arith, nat_tests)

letters_printable : (z : List ℕ) → list_all is_word_byte z ≡ true → are_printable z ≡ true
unfolding are_printable
letters_printable [] all = refl
letters_printable (b ∷ z) all =
    let parts = and_parts (is_word_byte b) (list_all is_word_byte z) all in
    and_from (is_printable b) (list_all is_printable z) (letter_printable b parts.0) (letters_printable z parts.1)

digit_printable : (n : ℕ) → is_printable (48 + n % 10) ≡ true
digit_printable n = let few : n % 10 < 10 = omega arith in grind (arith, nat_tests)

digits_printable : (k n : ℕ) → are_printable (digits k n) ≡ true
unfolding digits are_printable
digits_printable zero n = refl
digits_printable (suc k) n = by (nat_lt n 10) (digits_printable k (n / 10))
  where
    by : (t : Bool) → list_all is_printable (digits k (n / 10)) ≡ true → list_all is_printable (cond t [] (digits k (n / 10)) ++ (48 + n % 10) ∷ []) ≡ true
    by true ih = rw (digit_printable n) refl
    by false ih = list_all-append is_printable (digits k (n / 10)) ((48 + n % 10) ∷ []) ∙ rw (ih, digit_printable n) refl

quoted_printable : (t : List ℕ) → are_printable t ≡ true → are_printable (flat_map quoted t) ≡ true
unfolding are_printable
quoted_printable [] all = refl
quoted_printable (b ∷ t) all =
    let parts = and_parts (is_printable b) (list_all is_printable t) all in
    by (b == 39) parts.0 (quoted_printable t parts.1)
  where
    by : (q : Bool) → is_printable b ≡ true → list_all is_printable (flat_map quoted t) ≡ true → list_all is_printable (cond q (39 ∷ 39 ∷ []) (b ∷ []) ++ flat_map quoted t) ≡ true
    by true here rest = rest
    by false here rest = and_from (is_printable b) (list_all is_printable (flat_map quoted t)) here rest

text_printable : (t : List ℕ) → are_printable t ≡ true → are_printable (quoted_text t) ≡ true
unfolding are_printable
text_printable t all = list_all-append is_printable (39 ∷ flat_map quoted t) (39 ∷ []) ∙ and_from (list_all is_printable (flat_map quoted t)) true (quoted_printable t all) refl

single_printable : (a : ℕ) → is_single a ≡ true → is_printable a ≡ true
unfolding is_single
single_printable a is = grind (arith, nat_tests)

pair_printable : (a b : ℕ) → is_pair a b ≡ true → (is_printable a ≡ true) × (is_printable b ≡ true)
unfolding is_pair
pair_printable a b is = (grind (arith, nat_tests), grind (arith, nat_tests))

mark_printable : (a b : ℕ) → is_spelled_word (word.Mark a b) ≡ true → are_printable (mark_text a b) ≡ true
unfolding are_printable
mark_printable a b is = by (b == 0) is
  where
    by : (t : Bool) → cond t (is_single a) (is_pair a b) ≡ true → list_all is_printable (cond t (a ∷ []) (a ∷ b ∷ [])) ≡ true
    by true e = and_from (is_printable a) true (single_printable a e) refl
    by false e = let both = pair_printable a b e in and_from (is_printable a) (is_printable b && true) both.0 (and_from (is_printable b) true both.1 refl)

key_printable : (k : Keyword) → are_printable (key_text k) ≡ true
unfolding are_printable key_text
key_printable key.Table = refl
key_printable key.Set = refl
key_printable key.Memory = refl
key_printable key.Storage = refl
key_printable key.Int = refl
key_printable key.Text = refl
key_printable key.Bool = refl
key_printable key.Step = refl
key_printable key.Flush = refl
key_printable key.Checkpoint = refl
key_printable key.Stop = refl
key_printable key.Begin = refl
key_printable key.Commit = refl
key_printable key.Rollback = refl
key_printable key.Insert = refl
key_printable key.Into = refl
key_printable key.Values = refl
key_printable key.Select = refl
key_printable key.From = refl
key_printable key.Where = refl
key_printable key.Update = refl
key_printable key.Delete = refl
key_printable key.Or = refl
key_printable key.And = refl
key_printable key.Not = refl
key_printable key.True = refl
key_printable key.False = refl

word_printable : (w : Word) → is_spelled_word w ≡ true → are_printable (spell w) ≡ true
unfolding is_word
word_printable (word.Key k) is = key_printable k
word_printable (word.Name t) is =
    let parts = and_parts (is_word t) (is_none (keyword t)) is in
    letters_printable t (and_parts _ (list_all is_word_byte t) parts.0).1
word_printable (word.Number n) is = digits_printable 20 n
word_printable (word.Text t) is = text_printable t is
word_printable (word.Mark a b) is = mark_printable a b is

spaced_printable : (w : Word) → is_spelled_word w ≡ true → are_printable (spaced w) ≡ true
unfolding are_printable
spaced_printable w is = word_printable w is

spelled_printable : (ws : List Word) → list_all is_spelled_word ws ≡ true → are_printable (spelled ws) ≡ true
unfolding spelled are_printable
spelled_printable [] all = refl
spelled_printable (w ∷ ws) all =
    let parts = and_parts (is_spelled_word w) (list_all is_spelled_word ws) all in
    printable-append (spaced w) (flat_map spaced ws) (spaced_printable w parts.0) (spelled_printable ws parts.1)

joined_printable : (ws : List Word) → list_all is_spelled_word ws ≡ true → are_printable (joined ws) ≡ true
unfolding joined are_printable
joined_printable [] all = refl
joined_printable (w ∷ ws) all =
    let parts = and_parts (is_spelled_word w) (list_all is_spelled_word ws) all in
    printable-append (spell w) (spelled ws) (word_printable w parts.0) (spelled_printable ws parts.1)

-- ---- the words of an expression

all-append : (us vs : List Word) → list_all is_spelled_word us ≡ true → list_all is_spelled_word vs ≡ true → list_all is_spelled_word (us ++ vs) ≡ true
all-append us vs p q = list_all-append is_spelled_word us vs ∙ and_from (list_all is_spelled_word us) (list_all is_spelled_word vs) p q

name_spelled : (t : List ℕ) → is_name t ≡ true → is_spelled_word (word.Name t) ≡ true
name_spelled t is = let named = name_is_word t is in and_from (is_word t) (is_none (keyword t)) named.word (ap is_none named.no_key)

small : (n m : ℕ) → m ≤ n + 1 → nat_lt n 9223372036854775808 ≡ true → nat_lt m (2 ^ 64) ≡ true
small n m le is = let few = ltb-true n 9223372036854775808 is in lt-ltb m (2 ^ 64) (omega arith)

literal_spelled : (v : Value) → is_literal v ≡ true → list_all is_spelled_word (literal_words v) ≡ true
unfolding is_single is_text
literal_spelled (value.Int (pos n)) is = and_from (nat_lt n (2 ^ 64)) true (small n n (omega arith) is) refl
literal_spelled (value.Int (negsuc n)) is = and_from (nat_lt (suc n) (2 ^ 64)) true (small n (suc n) (omega arith) is) refl
literal_spelled (value.Text t) is = and_from (are_printable t) true (and_parts (nat_le (length t) 255) (are_printable t) is).1 refl
literal_spelled (value.Bool true) is = refl
literal_spelled (value.Bool false) is = refl

op_spelled : (o : Op) → is_spelled_word (op_word o) ≡ true
unfolding is_single is_pair
op_spelled op.Or = refl
op_spelled op.And = refl
op_spelled op.Eq = refl
op_spelled op.Ne = refl
op_spelled op.Lt = refl
op_spelled op.Le = refl
op_spelled op.Gt = refl
op_spelled op.Ge = refl
op_spelled op.Add = refl
op_spelled op.Sub = refl
op_spelled op.Mul = refl

wrapped_spelled : (asked : Bool) (ws : List Word) → list_all is_spelled_word ws ≡ true → list_all is_spelled_word (wrapped asked ws) ≡ true
unfolding is_single
wrapped_spelled true ws all = all-append ws (word.Mark mark.close_paren mark.none ∷ []) all refl
wrapped_spelled false ws all = all

abbrev IsSpelled : Expr → Type 0
IsSpelled x = can_be_spelled x ≡ true → (at : ℕ) → list_all is_spelled_word (printed x at) ≡ true

layer : (y : Expr-F Expr) → (spelled_step (map-Expr Expr Bool can_be_spelled y) ≡ true → (at : ℕ) → list_all is_spelled_word (print_step (map-Expr Expr (ℕ → List Word) printed y) at) ≡ true)
    → IsSpelled (roll-Expr y)
layer y is good at =
    ap (λ f. list_all is_spelled_word (f at)) (fold-roll-Expr (ℕ → List Word) print_step y) ∙ is (sym (fold-roll-Expr Bool spelled_step y) ∙ good) at

step : (y : Expr-F ((x : Expr) × IsSpelled x)) → IsSpelled (roll-Expr (map-Expr ((x : Expr) × IsSpelled x) Expr (λ p. p.0) y))
step (Expr-F.Lit v) = layer (Expr-F.Lit v) (λ good at. literal_spelled v good)
step (Expr-F.Col t) = layer (Expr-F.Col t) (λ good at. and_from (is_spelled_word (word.Name t)) true (name_spelled t good) refl)
step (Expr-F.Not a) = layer (Expr-F.Not a.0) (λ good at. wrapped_spelled (nat_lt 2 at) (word.Key key.Not ∷ printed a.0 2) (a.1 good 2))
step (Expr-F.Two o a b) = layer (Expr-F.Two o a.0 b.0) (λ good at.
    let parts = and_parts (can_be_spelled a.0) (can_be_spelled b.0) good in
    let right = and_from (is_spelled_word (op_word o)) (list_all is_spelled_word (printed b.0 (right_at o))) (op_spelled o) (b.1 parts.1 (right_at o)) in
    wrapped_spelled (nat_lt (strength o) at) _ (all-append (printed a.0 (left_at o)) (op_word o ∷ printed b.0 (right_at o)) (a.1 parts.0 (left_at o)) right))

expr_spelled : (x : Expr) → is_expression x ≡ true → list_all is_spelled_word (printed x 0) ≡ true
unfolding is_expression
expr_spelled x is = ind-Expr IsSpelled (λ x y is. subst (λ z. IsSpelled (roll-Expr z)) is (step y)) x (and_parts (can_be_spelled x) (nat_le (nesting x 0) 64) is).0 0

-- ---- the words of a statement

more_spelled : {A : Type 0} (p : A → Bool) (f : A → List Word) → ((x : A) → p x ≡ true → list_all is_spelled_word (f x) ≡ true) → (xs : List A) → list_all p xs ≡ true → list_all is_spelled_word (more_words f xs) ≡ true
unfolding is_single
more_spelled p f each [] all = refl
more_spelled p f each (x ∷ xs) all =
    let parts = and_parts (p x) (list_all p xs) all in
    all-append (f x) (more_words f xs) (each x parts.0) (more_spelled p f each xs parts.1)

listed_spelled : {A : Type 0} (p : A → Bool) (f : A → List Word) → ((x : A) → p x ≡ true → list_all is_spelled_word (f x) ≡ true) → (xs : List A) → are_some p xs ≡ true → list_all is_spelled_word (listed_words f xs) ≡ true
listed_spelled p f each [] all = absurd cc
listed_spelled p f each (x ∷ xs) all =
    let parts = and_parts (p x) (list_all p xs) all in
    all-append (f x) (more_words f xs) (each x parts.0) (more_spelled p f each xs parts.1)

name_words_spelled : (t : List ℕ) → is_name t ≡ true → list_all is_spelled_word (name_words t) ≡ true
name_words_spelled t is = and_from (is_spelled_word (word.Name t)) true (name_spelled t is) refl

named : (t : List ℕ) (ws : List Word) → is_name t ≡ true → list_all is_spelled_word ws ≡ true → list_all is_spelled_word (word.Name t ∷ ws) ≡ true
named t ws is all = and_from (is_spelled_word (word.Name t)) (list_all is_spelled_word ws) (name_spelled t is) all

set_spelled : (item : SetItem) → is_set item ≡ true → list_all is_spelled_word (set_words item) ≡ true
unfolding is_single
set_spelled item is =
    let parts = and_parts (is_name item.column) (is_expression item.value) is in
    named item.column (word.Mark mark.equals mark.none ∷ printed item.value 0) parts.0 (expr_spelled item.value parts.1)

cond_spelled : (c : Option Expr) → is_condition c ≡ true → list_all is_spelled_word (cond_words c) ≡ true
cond_spelled None is = refl
cond_spelled (Some e) is = expr_spelled e is

shown_spelled : (columns : Option (List (List ℕ))) → are_shown columns ≡ true → list_all is_spelled_word (shown_words columns) ≡ true
unfolding is_single
shown_spelled None is = refl
shown_spelled (Some names) is = listed_spelled is_name name_words name_words_spelled names is

pub said_spelled : (s : Statement) → can_be_printed s ≡ true → list_all is_spelled_word (said_words s) ≡ true
unfolding is_single
said_spelled (st.Begin begun.Cross) is = refl
said_spelled (st.Begin begun.Mem) is = refl
said_spelled (st.Begin begun.Store) is = refl
said_spelled st.Commit is = refl
said_spelled st.Rollback is = refl
said_spelled (st.Insert table values) is =
    let parts = and_parts (is_name table) (are_some is_literal values) is in
    let items = listed_spelled is_literal literal_words literal_spelled values parts.1 in
    named table (listed_words literal_words values ++ word.Mark mark.close_paren mark.none ∷ []) parts.0 (all-append (listed_words literal_words values) (word.Mark mark.close_paren mark.none ∷ []) items refl)
said_spelled (st.Select table columns c) is =
    let parts = and_parts (is_name table && are_shown columns) (is_condition c) is in
    let front = and_parts (is_name table) (are_shown columns) parts.0 in
    all-append (shown_words columns) (word.Key key.From ∷ word.Name table ∷ cond_words c) (shown_spelled columns front.1) (named table (cond_words c) front.0 (cond_spelled c parts.1))
said_spelled (st.Update table sets c) is =
    let parts = and_parts (is_name table && are_some is_set sets) (is_condition c) is in
    let front = and_parts (is_name table) (are_some is_set sets) parts.0 in
    named table (word.Key key.Set ∷ listed_words set_words sets ++ cond_words c) front.0
    (all-append (listed_words set_words sets) (cond_words c) (listed_spelled is_set set_words set_spelled sets front.1) (cond_spelled c parts.1))
said_spelled (st.Delete table c) is =
    let parts = and_parts (is_name table) (is_condition c) is in
    named table (cond_words c) parts.0 (cond_spelled c parts.1)

-- ---- the line

joined_behind : (w : Word) (ws : List Word) → spelled (w ∷ ws) ≡ 32 ∷ joined (w ∷ ws)
unfolding spelled joined
joined_behind w ws = refl

said_behind : (s : Statement) → spelled (said_words s) ≡ 32 ∷ joined (said_words s)
said_behind (st.Begin begun) = joined_behind _ _
said_behind st.Commit = joined_behind _ _
said_behind st.Rollback = joined_behind _ _
said_behind (st.Insert table values) = joined_behind _ _
said_behind (st.Select table columns c) = joined_behind _ _
said_behind (st.Update table sets c) = joined_behind _ _
said_behind (st.Delete table c) = joined_behind _ _

-- what is written is a space and then the line
pub record Line (s : Statement) (out : List ℕ) : Type 0 where
  pub line : drop 1 out ≡ joined (said_words s)
  pub printable : ArePrintable (drop 1 out)
  pub read : IsReadAs (drop 1 out) s

pub of_print : (s : Statement) (out : List ℕ) → can_be_printed s ≡ true → out ≡ said_text s → Line s out
of_print s out can is =
    let whole : out ≡ 32 ∷ joined (said_words s) = is ∙ is_said s ∙ said_behind s in
    let line : drop 1 out ≡ joined (said_words s) = ap (drop 1) whole in
    record {
      line = line;
      printable = subst ArePrintable (sym line) (all_printable _ (joined_printable (said_words s) (said_spelled s can)));
      read = subst (λ z. IsReadAs z s) (sym line) (read_as s can (said_spelled s can));
    }
