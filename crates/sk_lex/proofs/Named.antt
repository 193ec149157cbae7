-- The name of a table or a column is a word and no keyword in any mixture of cases.
use Rattle.std.proofs.Common.{◌≡◌, ℕ, Bool, true, false, cond, not, ◌&&◌, ◌||◌, List, [], ◌∷◌, map, Some, None, refl, ap, ◌∙◌, arith}
use Rattle.std.specs.Char.{to_ascii_lowercase}
use Rattle.std.specs.List.{list_all, list_any}
use Rattle.std.specs.Str.{bytes_eq, str_eq_ignore_ascii_case, str_to_ascii_lowercase}
use Rattle.std.proofs.lemmas.Bool.{and_from, and_parts, or_parts}
use Rattle.std.proofs.lemmas.Bool.Decides.{nat_tests}
use Rattle.sk_rows.specs.Names.{are_name_bytes, begins_with_digit, has_name_length, is_keyword, is_name, is_name_byte, keywords as row_keywords}
use Rattle.sk_lex.specs.declared.front.Class.TheVariants as class
use Rattle.sk_lex.specs.declared.token.Keyword.{Keyword}
use Rattle.sk_lex.specs.Front.{Text, begins, is_in, keyword, keywords, lookup}
use Rattle.sk_lex.specs.Spelling.{is_word}

is_not : (t : Bool) → not t ≡ true → t ≡ false
is_not true e = absurd cc
is_not false e = refl

-- the two tables have the same words
same_words : map (λ k. str_to_ascii_lowercase k.0) keywords ≡ row_keywords
same_words = refl

lower_byte : (b : ℕ) → is_name_byte b ≡ true → to_ascii_lowercase b ≡ b
lower_byte b is = grind (arith, nat_tests)

letter_byte : (b : ℕ) → is_name_byte b ≡ true → is_in class.Letters b ≡ true
letter_byte b is = grind (arith, nat_tests)

lower : (t : Text) → list_all is_name_byte t ≡ true → str_to_ascii_lowercase t ≡ t
lower [] all = refl
lower (b ∷ t) all =
    let parts = and_parts (is_name_byte b) (list_all is_name_byte t) all in
    ap (λ x. x ∷ str_to_ascii_lowercase t) (lower_byte b parts.0) ∙ ap (λ l. b ∷ l) (lower t parts.1)

letters : (t : Text) → list_all is_name_byte t ≡ true → list_all (is_in class.Letters) t ≡ true
letters [] all = refl
letters (b ∷ t) all =
    let parts = and_parts (is_name_byte b) (list_all is_name_byte t) all in
    and_from (is_in class.Letters b) (list_all (is_in class.Letters) t) (letter_byte b parts.0) (letters t parts.1)

not_found : (table : List (Text × Keyword)) (t : Text) → str_to_ascii_lowercase t ≡ t → list_any (λ word. bytes_eq word t) (map (λ k. str_to_ascii_lowercase k.0) table) ≡ false
    → lookup table t ≡ None
not_found [] t low none = refl
not_found (k ∷ ks) t low none =
    let parts = or_parts (bytes_eq (str_to_ascii_lowercase k.0) t) (list_any (λ word. bytes_eq word t) (map (λ k. str_to_ascii_lowercase k.0) ks)) none in
    let here : str_eq_ignore_ascii_case k.0 t ≡ false = ap (bytes_eq (str_to_ascii_lowercase k.0)) low ∙ parts.0 in
    ap (λ b. cond b (Some k.1) (lookup ks t)) here ∙ not_found ks t low parts.1

-- the four parts of a name
pub record Named (t : Text) : Type 0 where
  pub word : is_word t ≡ true
  pub no_key : keyword t ≡ None

named_by : (t : Text) → has_name_length t ≡ true → begins_with_digit t ≡ false → list_all is_name_byte t ≡ true → is_keyword t ≡ false → Named t
unfolding has_name_length begins_with_digit is_keyword is_word keyword begins
named_by [] some digit bytes key = absurd cc
named_by (b ∷ t) some digit bytes key =
    let parts = and_parts (is_name_byte b) (list_all is_name_byte t) bytes in
    let all = letters (b ∷ t) bytes in
    record {
      word = and_from (is_in class.Letters b && not (is_in class.Digits b)) (list_all (is_in class.Letters) (b ∷ t)) (and_from (is_in class.Letters b) (not (is_in class.Digits b)) (letter_byte b parts.0) (ap not digit)) all;
      no_key = not_found keywords (b ∷ t) (lower (b ∷ t) bytes) (ap (list_any (λ word. bytes_eq word (b ∷ t))) same_words ∙ key);
    }

pub name_is_word : (t : Text) → is_name t ≡ true → Named t
unfolding is_name are_name_bytes
name_is_word t is =
    let last = and_parts (has_name_length t && not (begins_with_digit t) && list_all is_name_byte t) (not (is_keyword t)) is in
    let third = and_parts (has_name_length t && not (begins_with_digit t)) (list_all is_name_byte t) last.0 in
    let second = and_parts (has_name_length t) (not (begins_with_digit t)) third.0 in
    named_by t second.0 (is_not (begins_with_digit t) second.1) third.1 (is_not (is_keyword t) last.1)
