-- No statement has a semicolon.
use Rattle.std.proofs.Common.{◌≡◌, ◌==◌, ℕ, zero, suc, Bool, true, false, not, ◌&&◌, List, [], ◌∷◌, ◌++◌, Option, Some, None, refl, ap, subst, ◌∙◌, arith}
use Rattle.std.specs.List.{list_all}
use Rattle.std.proofs.lemmas.Bool.Decides.{nat_tests}
use Rattle.std.proofs.lemmas.List.Folds.{list_all-append}
use Rattle.sk_lex.specs.declared.token.Keyword.TheVariants as key
use Rattle.sk_lex.specs.declared.token.Word.{Word}
use Rattle.sk_lex.specs.declared.token.Word.TheVariants as word
use Rattle.sk_rows.specs.declared.expr.Op.{Op}
use Rattle.sk_rows.specs.declared.expr.Expr.{Expr}
use Rattle.sk_rows.specs.declared.statement.Begun.{Begun}
use Rattle.sk_rows.specs.declared.statement.Begun.TheVariants as begun
use Rattle.sk_rows.specs.declared.statement.SetItem.{SetItem}
use Rattle.sk_rows.specs.declared.statement.Statement.{Statement}
use Rattle.sk_rows.specs.declared.statement.Statement.TheVariants as st
use Rattle.sk_rows.specs.declared.value.Value.{Value}
use Rattle.sk_lex.specs.Marks as mark
use Rattle.sk_parse.specs.declared.terms.Level.{Level}
use Rattle.sk_parse.specs.declared.terms.Level.TheVariants as level
use Rattle.sk_parse.specs.Rules.{Derives, IsLiteral, Rule}
use Rattle.sk_parse.specs.Saying.{AreListed, AreMore, AreShown, IsBegun, IsExpr, IsName, IsSet, IsWhere, Says}
use Rattle.sk_parse.specs.Terms.{compared, comparison, grouping, negative_of, prod_op, sum_op, value_of}
use Rattle.sk_script.specs.Body.{is_mark}

abbrev pub goes : Word → Bool
goes w = not (is_mark 59 w)

abbrev pub AreFree : List Word → Type 0
AreFree ws = list_all goes ws ≡ true

pub both : (us vs : List Word) → AreFree us → AreFree vs → AreFree (us ++ vs)
both us vs left right = list_all-append goes us vs ∙ rw (left, right) refl

one : (w : Word) (ws : List Word) → goes w ≡ true → AreFree ws → AreFree (w ∷ ws)
one w ws first rest = rw (first, rest) refl

same_free : (us vs : List Word) → us ≡ vs → AreFree vs → AreFree us
same_free us vs is free = ap (list_all goes) is ∙ free

-- ---- operators

sum_goes : (a : ℕ) (o : Op) → sum_op a ≡ Some o → goes (word.Mark a 0) ≡ true
sum_goes a o at = by (a == 59) refl
  where
    by : (t : Bool) → (a == 59) ≡ t → not (t && (0 == 0)) ≡ true
    by true is = let same : a ≡ 59 = grind (arith, nat_tests) in let bad : None ≡ Some o = subst (λ z. sum_op z ≡ Some o) same at in absurd (cc)
    by false is = refl

prod_goes : (a : ℕ) (o : Op) → prod_op a ≡ Some o → goes (word.Mark a 0) ≡ true
prod_goes a o at = by (a == 59) refl
  where
    by : (t : Bool) → (a == 59) ≡ t → not (t && (0 == 0)) ≡ true
    by true is = let same : a ≡ 59 = grind (arith, nat_tests) in let bad : None ≡ Some o = subst (λ z. prod_op z ≡ Some o) same at in absurd (cc)
    by false is = refl

compared_goes : (a b : ℕ) (o : Op) → compared a b ≡ Some o → goes (word.Mark a b) ≡ true
compared_goes a b o at = by (a == 59) refl
  where
    by : (t : Bool) → (a == 59) ≡ t → not (t && (b == 0)) ≡ true
    by true is = let same : a ≡ 59 = grind (arith, nat_tests) in let bad : None ≡ Some o = subst (λ z. compared z b ≡ Some o) same at in absurd (cc)
    by false is = refl

grouping_goes : (l : Level) (w : Word) (o : Op) → grouping l w ≡ Some o → goes w ≡ true
grouping_goes l (word.Key k) o at = refl
grouping_goes l (word.Name t) o at = refl
grouping_goes l (word.Number n) o at = refl
grouping_goes l (word.Text t) o at = refl
grouping_goes level.Or (word.Mark a b) o at = absurd (cc)
grouping_goes level.And (word.Mark a b) o at = absurd (cc)
grouping_goes level.Sum (word.Mark a zero) o at = sum_goes a o at
grouping_goes level.Sum (word.Mark a (suc b)) o at = absurd (cc)
grouping_goes level.Prod (word.Mark a zero) o at = prod_goes a o at
grouping_goes level.Prod (word.Mark a (suc b)) o at = absurd (cc)

comparison_goes : (w : Word) (o : Op) → comparison w ≡ Some o → goes w ≡ true
comparison_goes (word.Mark a b) o at = compared_goes a b o at
comparison_goes (word.Key k) o at = refl
comparison_goes (word.Name t) o at = refl
comparison_goes (word.Number n) o at = refl
comparison_goes (word.Text t) o at = refl

-- ---- literals and expressions

value_goes : (w : Word) (v : Value) → value_of w ≡ Some v → goes w ≡ true
value_goes (word.Mark a b) v at = absurd (cc)
value_goes (word.Key k) v at = refl
value_goes (word.Name t) v at = refl
value_goes (word.Number n) v at = refl
value_goes (word.Text t) v at = refl

negative_goes : (w : Word) (v : Value) → negative_of w ≡ Some v → goes w ≡ true
negative_goes (word.Mark a b) v at = absurd (cc)
negative_goes (word.Key k) v at = refl
negative_goes (word.Name t) v at = refl
negative_goes (word.Number n) v at = refl
negative_goes (word.Text t) v at = refl

literal_free : (ws : List Word) (v : Value) → IsLiteral ws v → AreFree ws
literal_free _ _ (IsLiteral.plain w v at) = one w [] (value_goes w v at) refl
literal_free _ _ (IsLiteral.negative w v at) = one w [] (negative_goes w v at) refl

derived_free : (r : Rule) (n : ℕ) (ws : List Word) (a : Expr) → Derives r n ws a → AreFree ws
derived_free _ _ _ _ (Derives.chain_one n l ws a d) = derived_free _ _ _ _ d
derived_free _ _ _ _ (Derives.chain_more n l us w vs o a b d at e) =
    both us (w ∷ vs) (derived_free _ _ _ _ d) (one w vs (grouping_goes l w o at) (derived_free _ _ _ _ e))
derived_free _ _ _ _ (Derives.neg_one n ws a d) = derived_free _ _ _ _ d
derived_free _ _ _ _ (Derives.neg_not n ws a d) = derived_free _ _ _ _ d
derived_free _ _ _ _ (Derives.comp_one n ws a d) = derived_free _ _ _ _ d
derived_free _ _ _ _ (Derives.comp_two n us w vs o a b d at e) =
    both us (w ∷ vs) (derived_free _ _ _ _ d) (one w vs (comparison_goes w o at) (derived_free _ _ _ _ e))
derived_free _ _ _ _ (Derives.atom_literal n ws v is) = literal_free ws v is
derived_free _ _ _ _ (Derives.atom_name n t is) = refl
derived_free _ _ _ _ (Derives.atom_parens n ws a d) = both ws (word.Mark mark.close_paren mark.none ∷ []) (derived_free _ _ _ _ d) refl

expr_free : (ws : List Word) (e : Expr) → IsExpr ws e → AreFree ws
expr_free ws e is = derived_free _ _ ws e is

-- ---- statements

more_free : {A : Type 0} (Item : List Word → A → Type 0) → ((ws : List Word) (x : A) → Item ws x → AreFree ws) → (xs : List A) (ws : List Word) → AreMore Item ws xs → AreFree ws
more_free Item each [] ws is = same_free ws [] is refl
more_free Item each (x ∷ xs) ws is =
    same_free ws (word.Mark mark.comma mark.none ∷ is.0 ++ is.1) is.2 (both is.0 is.1 (each is.0 x is.3) (more_free Item each xs is.1 is.4))

listed_free : {A : Type 0} (Item : List Word → A → Type 0) → ((ws : List Word) (x : A) → Item ws x → AreFree ws) → (xs : List A) (ws : List Word) → AreListed Item ws xs → AreFree ws
listed_free Item each [] ws is = absurd is
listed_free Item each (x ∷ xs) ws is = same_free ws (is.0 ++ is.1) is.2 (both is.0 is.1 (each is.0 x is.3) (more_free Item each xs is.1 is.4))

where_free : (ws : List Word) (c : Option Expr) → IsWhere ws c → AreFree ws
where_free ws None is = same_free ws [] is refl
where_free ws (Some e) is = same_free ws (word.Key key.Where ∷ is.0) is.1 (expr_free is.0 e is.2)

begun_free : (ws : List Word) (b : Begun) → IsBegun ws b → AreFree ws
begun_free ws begun.Cross is = same_free ws [] is refl
begun_free ws begun.Mem is = same_free ws (word.Key key.Memory ∷ []) is refl
begun_free ws begun.Store is = same_free ws (word.Key key.Storage ∷ []) is refl

name_free : (ws : List Word) (t : List ℕ) → IsName ws t → AreFree ws
name_free ws t is = same_free ws (word.Name t ∷ []) is.0 refl

shown_free : (ws : List Word) (c : Option (List (List ℕ))) → AreShown ws c → AreFree ws
shown_free ws None is = same_free ws (word.Mark mark.star mark.none ∷ []) is refl
shown_free ws (Some names) is = listed_free IsName name_free names ws is

set_free : (ws : List Word) (item : SetItem) → IsSet ws item → AreFree ws
set_free ws item is = same_free ws (word.Name item.column ∷ word.Mark mark.equals mark.none ∷ is.0) is.1 (expr_free is.0 item.value is.3)

pub said_free : (ws : List Word) (s : Statement) → Says ws s → AreFree ws
said_free ws (st.Begin b) is = same_free ws (word.Key key.Begin ∷ is.0) is.1 (begun_free is.0 b is.2)
said_free ws st.Commit is = same_free ws (word.Key key.Commit ∷ []) is refl
said_free ws st.Rollback is = same_free ws (word.Key key.Rollback ∷ []) is refl
said_free ws (st.Insert t values) is =
    same_free ws (word.Key key.Insert ∷ word.Key key.Into ∷ word.Name t ∷ word.Key key.Values ∷ word.Mark mark.open_paren mark.none ∷ is.0 ++ word.Mark mark.close_paren mark.none ∷ []) is.1
    (both is.0 (word.Mark mark.close_paren mark.none ∷ []) (listed_free IsLiteral literal_free values is.0 is.3) refl)
said_free ws (st.Select t columns c) is =
    same_free ws (word.Key key.Select ∷ is.0 ++ word.Key key.From ∷ word.Name t ∷ is.1) is.2
    (both is.0 (word.Key key.From ∷ word.Name t ∷ is.1) (shown_free is.0 columns is.3) (where_free is.1 c is.5))
said_free ws (st.Update t sets c) is =
    same_free ws (word.Key key.Update ∷ word.Name t ∷ word.Key key.Set ∷ is.0 ++ is.1) is.2
    (both is.0 is.1 (listed_free IsSet set_free sets is.0 is.4) (where_free is.1 c is.5))
said_free ws (st.Delete t c) is = same_free ws (word.Key key.Delete ∷ word.Key key.From ∷ word.Name t ∷ is.0) is.1 (where_free is.0 c is.3)
