-- The words of a SET line: they are read as an option exactly where the rules make it of them and it may be set.
use Rattle.std.proofs.Common.{◌≡◌, ℕ, true, false, not, ◌&&◌, List, [], ◌∷◌, Option, Some, None, refl, ap, subst, ◌∙◌}
use Rattle.std.specs.Prelude.{is_some, nat_le, Ok}
use Rattle.std.proofs.lemmas.Bool.{and_parts, le-leb, leb-true, not-true}
use Rattle.sk_lex.specs.declared.token.Token.{Token}
use Rattle.sk_lex.specs.declared.token.Word.{Word}
use Rattle.sk_lex.specs.declared.token.Word.TheVariants as word
use Rattle.sk_lex.specs.Front.{Text}
use Rattle.sk_parse.specs.Places.{words}
use Rattle.sk_script.specs.declared.script.OptionLine.{OptionLine}
use Rattle.sk_script.specs.Options.{IsWithin, MaySet, behind_name, behind_number, by_name, by_number, has_option, is_within, new_option, number_of, option_line, range_of}
use Rattle.sk_script.proofs.Parts.{kept}

-- the option of this name, set to this number in this line
abbrev pub set_to : ℕ → Text → ℕ → OptionLine
set_to n name k = record { line = n; name = name; number = k }

-- ---- ranges

within : (r : Option (ℕ × ℕ)) (k : ℕ) → is_within r k ≡ true → IsWithin r k
within None k is = absurd cc
within (Some r) k is = let parts = and_parts (nat_le r.0 k) (nat_le k r.1) is in (leb-true r.0 k parts.0, leb-true k r.1 parts.1)

is_inside : (r : Option (ℕ × ℕ)) (k : ℕ) → IsWithin r k → is_within r k ≡ true
is_inside None k is = absurd is
is_inside (Some r) k is = rw (le-leb r.0 k is.0, le-leb k r.1 is.1) refl

has_range : (r : Option (ℕ × ℕ)) (k : ℕ) → IsWithin r k → is_some r ≡ true
has_range None k is = absurd is
has_range (Some r) k is = refl

-- ---- what is read stands in the words

record IsNew (lines : List OptionLine) (w : Word) (name : Text) : Type 0 where
  word : w ≡ word.Name name
  alone : has_option name lines ≡ false

new_word : (lines : List OptionLine) (w : Word) (name : Text) → new_option lines w ≡ Some name → IsNew lines w name
new_word lines (word.Name t) name is =
    let found = kept (is_some (range_of t) && not (has_option t lines)) t name is in
    let parts = and_parts (is_some (range_of t)) (not (has_option t lines)) found.0 in
    subst (IsNew lines (word.Name t)) found.1 (record { word = refl; alone = not-true (has_option t lines) parts.1 })
new_word lines (word.Key k) name is = absurd cc
new_word lines (word.Number n) name is = absurd cc
new_word lines (word.Text t) name is = absurd cc
new_word lines (word.Mark a b) name is = absurd cc

number_word : (name : Text) (w : Word) (k : ℕ) → number_of name w ≡ Some k → (w ≡ word.Number k) × IsWithin (range_of name) k
number_word name (word.Number n) k is =
    let found = kept (is_within (range_of name) n) n k is in
    (ap word.Number found.1, subst (IsWithin (range_of name)) found.1 (within (range_of name) n found.0))
number_word name (word.Key l) k is = absurd cc
number_word name (word.Name t) k is = absurd cc
number_word name (word.Text t) k is = absurd cc
number_word name (word.Mark a b) k is = absurd cc

nothing_behind : (o : OptionLine) (ts : List Token) (end : ℕ) (x : OptionLine) → behind_number o ts end ≡ Ok x → (ts ≡ []) × (o ≡ x)
nothing_behind o [] end x is = let same : o ≡ x = cc in (refl, same)
nothing_behind o (t ∷ ts) end x is = absurd cc

number_words : (n : ℕ) (name : Text) (ts : List Token) (end : ℕ) (o : OptionLine) → behind_name n name ts end ≡ Ok o
    → (k : ℕ) × (set_to n name k ≡ o) × (words ts ≡ word.Number k ∷ []) × IsWithin (range_of name) k
number_words n name [] end o is = absurd cc
number_words n name (t ∷ ts) end o is = by (number_of name t.word) refl is
  where
    by : (found : Option ℕ) → number_of name t.word ≡ found → by_number found n name t ts end ≡ Ok o → (k : ℕ) × (set_to n name k ≡ o) × (words (t ∷ ts) ≡ word.Number k ∷ []) × IsWithin (range_of name) k
    by (Some k) at e =
        let last = nothing_behind (set_to n name k) ts end o e in
        let number = number_word name t.word k at in
        (k, last.1, ap (λ rest. words (t ∷ rest)) last.0 ∙ ap (λ w. w ∷ []) number.0, number.1)
    by None at e = absurd cc

-- what a SET line that was read sets
pub record IsSetting (lines : List OptionLine) (n : ℕ) (ts : List Token) (o : OptionLine) : Type 0 where
  pub name : Text
  pub k : ℕ
  pub is : set_to n name k ≡ o
  pub words : words ts ≡ word.Name name ∷ word.Number k ∷ []
  pub may : MaySet lines name k

pub option_words : (lines : List OptionLine) (n : ℕ) (ts : List Token) (end : ℕ) (o : OptionLine) → option_line lines n ts end ≡ Ok o → IsSetting lines n ts o
unfolding option_line
option_words lines n [] end o is = absurd cc
option_words lines n (t ∷ ts) end o is = by (new_option lines t.word) refl is
  where
    by : (found : Option Text) → new_option lines t.word ≡ found → by_name found n t ts end ≡ Ok o → IsSetting lines n (t ∷ ts) o
    by (Some name) at e =
        let new = new_word lines t.word name at in
        let number = number_words n name ts end o e in
        record {
          name = name;
          k = number.0;
          is = number.1;
          words = ap (λ w. w ∷ words ts) new.word ∙ ap (λ l. word.Name name ∷ l) number.2;
          may = (number.3, new.alone);
        }
    by None at e = absurd cc

-- ---- what stands in the words is read

name_read : (lines : List OptionLine) (name : Text) (k : ℕ) → MaySet lines name k → new_option lines (word.Name name) ≡ Some name
name_read lines name k may = rw (has_range (range_of name) k may.0, may.1) refl

number_read : (name : Text) (k : ℕ) → IsWithin (range_of name) k → number_of name (word.Number k) ≡ Some k
number_read name k is = rw (is_inside (range_of name) k is) refl

pub option_read : (lines : List OptionLine) (n : ℕ) (ts : List Token) (end : ℕ) (name : Text) (k : ℕ) → words ts ≡ word.Name name ∷ word.Number k ∷ [] → MaySet lines name k
    → option_line lines n ts end ≡ Ok (set_to n name k)
unfolding option_line
option_read lines n [] end name k is may = absurd cc
option_read lines n (t ∷ []) end name k is may = absurd cc
option_read lines n (t ∷ u ∷ []) end name k is may =
    let first : t.word ≡ word.Name name = cc in
    let second : u.word ≡ word.Number k = cc in
    ap (λ o. by_name o n t (u ∷ []) end) (ap (new_option lines) first ∙ name_read lines name k may)
    ∙ ap (λ o. by_number o n name u [] end) (ap (number_of name) second ∙ number_read name k may.0)
option_read lines n (t ∷ u ∷ v ∷ ts) end name k is may = absurd cc
