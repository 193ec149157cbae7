-- Columns that are read are such as a catalog takes.
use Rattle.std.proofs.Common.{◌≡◌, ℕ, zero, suc, ◌≤◌, ◌<◌, Bool, true, false, cond, not, ◌&&◌, List, [], ◌∷◌, ◌++◌, length, length-append, Some, Ok, refl, sym, ap, subst, ◌∙◌, arith}
use Rattle.std.specs.Prelude.{nat_lt}
use Rattle.std.specs.Str.{bytes_eq}
use Rattle.std.proofs.lemmas.Bool.{and_parts, or_parts, not-true, ltb-true, le-leb, false_from_ne_true}
use Rattle.std.proofs.lemmas.List.Folds.{list_any-append}
use Rattle.std.proofs.lemmas.Slice.Eq.{bytes_eq-Decides}
use Rattle.sk_lex.specs.declared.token.Word.{Word}
use Rattle.sk_lex.specs.declared.token.Word.TheVariants as word
use Rattle.sk_rows.specs.declared.table.Column.{Column}
use Rattle.sk_rows.specs.declared.value.Sort.{Sort}
use Rattle.sk_rows.specs.declared.value.Sort.TheVariants as sorts
use Rattle.sk_rows.specs.Catalog.{are_columns, are_named, has_bool_key, has_column, is_bool}
use Rattle.sk_rows.specs.Names.{is_name}
use Rattle.sk_lex.specs.Marks as mark
use Rattle.sk_parse.specs.declared.cursor.Sign.TheVariants as sign
use Rattle.sk_parse.specs.Input.{Input, ◌>>=◌, after, pure, refuse, sees}
use Rattle.sk_script.specs.Header.{column, column_name, columns, columns_from, is_bool_key, named, new_column, sort}
use Rattle.sk_script.proofs.Parts.{allowed, kept, then_parts, took}

-- a name that none of these columns has, with room for one more
record IsNew (cs : List Column) (name : List ℕ) : Type 0 where
  good : is_name name ≡ true
  few : length cs < 16
  alone : has_column name cs ≡ false

-- what the columns read so far are
record AreGood (cs : List Column) : Type 0 where
  some : 1 ≤ length cs
  few : length cs ≤ 16
  named : are_named cs ≡ true
  key : has_bool_key cs ≡ false

is_new : (cs : List Column) (w : Word) (name : List ℕ) → new_column cs w ≡ Some name → IsNew cs name
is_new cs (word.Name t) name e =
    let found = kept (is_name t && nat_lt (length cs) 16 && not (has_column t cs)) t name e in
    let parts = and_parts (is_name t && nat_lt (length cs) 16) (not (has_column t cs)) found.0 in
    let front = and_parts (is_name t) (nat_lt (length cs) 16) parts.0 in
    subst (IsNew cs) found.1 (record { good = front.0; few = ltb-true (length cs) 16 front.1; alone = not-true (has_column t cs) parts.1 })
is_new cs (word.Key k) name e = absurd cc
is_new cs (word.Number n) name e = absurd cc
is_new cs (word.Text t) name e = absurd cc
is_new cs (word.Mark a b) name e = absurd cc

-- two texts differ in either order
pub unlike : (a b : List ℕ) → bytes_eq a b ≡ false → bytes_eq b a ≡ false
unlike a b e = false_from_ne_true (bytes_eq b a) (λ same.
    let equal : b ≡ a = (bytes_eq-Decides b a).0 same in
    let other : bytes_eq a b ≡ true = (bytes_eq-Decides a b).1 (sym equal) in
    absurd cc)

-- one more column, whose name differs from those before it
named_more : (cs : List Column) (c : Column) → is_name c.name ≡ true → has_column c.name cs ≡ false → are_named cs ≡ true → are_named (cs ++ c ∷ []) ≡ true
named_more [] c good alone so = rw good refl
named_more (d ∷ cs) c good alone so =
    let differs = or_parts (bytes_eq d.name c.name) (has_column c.name cs) alone in
    let parts = and_parts (is_name d.name && not (has_column d.name cs)) (are_named cs) so in
    let front = and_parts (is_name d.name) (not (has_column d.name cs)) parts.0 in
    let others : has_column d.name cs ≡ false = not-true (has_column d.name cs) front.1 in
    let last : bytes_eq c.name d.name ≡ false = unlike d.name c.name differs.0 in
    let all : has_column d.name (cs ++ c ∷ []) ≡ false = list_any-append (λ (x : Column). bytes_eq x.name d.name) cs (c ∷ []) ∙ rw (others, last) refl in
    let rest : are_named (cs ++ c ∷ []) ≡ true = named_more cs c good differs.1 parts.1 in
    rw (front.0, all, rest) refl

key_more : (cs : List Column) (c : Column) → 1 ≤ length cs → has_bool_key cs ≡ false → has_bool_key (cs ++ c ∷ []) ≡ false
unfolding has_bool_key
key_more [] c some e = absurd (omega arith)
key_more (d ∷ cs) c some e = e

good_more : (cs : List Column) (c : Column) → AreGood cs → IsNew cs c.name → AreGood (cs ++ c ∷ [])
good_more cs c good new = record {
  some = omega (arith, good.some, length-append cs (c ∷ []));
  few = omega (arith, new.few, length-append cs (c ∷ []));
  named = named_more cs c new.good new.alone good.named;
  key = key_more cs c good.some good.key;
}

no_key : (s : Sort) → is_bool_key [] s ≡ false → is_bool s ≡ false
no_key sorts.Bool e = absurd cc
no_key sorts.Int e = refl
no_key sorts.Text e = refl

good_first : (c : Column) → IsNew [] c.name → is_bool_key [] c.sort ≡ false → AreGood (c ∷ [])
unfolding has_bool_key
good_first c new key = record {
  some = omega arith;
  few = omega arith;
  named = rw new.good refl;
  key = no_key c.sort key;
}

-- a column that is read is new, and no key of truths
column_is_new : (cs : List Column) (i : Input) (p : Column × Input) → column cs i ≡ Ok p → IsNew cs p.0.name × (is_bool_key cs p.0.sort ≡ false)
unfolding column column_name
column_is_new cs i p e =
    let name = then_parts (column_name cs i) (λ name. sort >>= (λ s. cond (is_bool_key cs s) (λ rest. refuse i) (pure (named name s)))) p e in
    let s = then_parts (sort name.0.1) (λ s. cond (is_bool_key cs s) (λ rest. refuse i) (pure (named name.0.0 s))) p name.2 in
    let last = allowed (is_bool_key cs s.0.0) i s.0.1 (named name.0.0 s.0.0) p s.2 in
    let word = took (new_column cs) i name.0 name.1 in
    let P : Column → Type 0 = λ c. IsNew cs c.name × (is_bool_key cs c.sort ≡ false) in
    subst P last.1 (is_new cs word.0 name.0.0 word.1, last.0)

same_value : {A : Type 0} (x : A) (i : Input) (p : A × Input) → pure x i ≡ Ok p → x ≡ p.0
same_value {A} x i p e =
    let same : (x, i) ≡ p = cc in
    ap (λ (q : A × Input). q.0) same

-- one turn, which a comma begins, or the end
good_turn : (more : Bool) (n : ℕ) (cs : List Column) (i : Input) (p : List Column × Input)
    → ((c : Column) (rest : Input) → AreGood (cs ++ c ∷ []) → columns_from n (cs ++ c ∷ []) rest ≡ Ok p → AreGood p.0)
    → AreGood cs → cond more (column cs >>= (λ c. columns_from n (cs ++ c ∷ []))) (pure cs) i ≡ Ok p → AreGood p.0
good_turn true n cs i p later good e =
    let parts = then_parts (column cs i) (λ c. columns_from n (cs ++ c ∷ [])) p e in
    later parts.0.0 parts.0.1 (good_more cs parts.0.0 good (column_is_new cs i parts.0 parts.1).0) parts.2
good_turn false n cs i p later good e = subst AreGood (same_value cs i p e) good

good_from : (n : ℕ) (cs : List Column) (i : Input) (p : List Column × Input) → AreGood cs → columns_from n cs i ≡ Ok p → AreGood p.0
unfolding columns_from
good_from zero cs i p good e = subst AreGood (same_value cs i p e) good
good_from (suc n) cs i p good e = good_turn (sees (sign.Mark mark.comma mark.none) i) n cs (after (sign.Mark mark.comma mark.none) i) p (λ c rest. good_from n (cs ++ c ∷ []) rest p) good e

good_columns : (i : Input) (p : List Column × Input) → columns i ≡ Ok p → AreGood p.0
unfolding columns
good_columns i p e =
    let first = then_parts (column [] i) (λ c. λ rest. columns_from (length rest) (c ∷ []) rest) p e in
    let new = column_is_new [] i first.0 first.1 in
    good_from (length first.0.1) (first.0.0 ∷ []) first.0.1 p (good_first first.0.0 new.0 new.1) first.2

-- columns that are read: good ones, and no key of truths
pub columns_are_good : (i : Input) (p : List Column × Input) → columns i ≡ Ok p → (are_columns p.0 ≡ true) × (has_bool_key p.0 ≡ false)
unfolding are_columns
columns_are_good i p e =
    let good = good_columns i p e in
    let least = le-leb 1 (length p.0) good.some in
    let most = le-leb (length p.0) 16 good.few in
    (rw (least, most, good.named) refl, good.key)
