-- What the grammar says is read as it.
use Rattle.std.proofs.Common.{◌≡◌, ◌≤◌, ◌==◌, ℕ, zero, suc, true, false, cond, List, [], ◌∷◌, ◌++◌, length, length-append, refl, sym, ap, subst, ◌∙◌, append_assoc, append-nil, arith, Option, Some, None}
use Rattle.std.specs.Prelude.{Ok}
use Rattle.sk_lex.specs.declared.token.Keyword.TheVariants as key
use Rattle.sk_lex.specs.declared.token.Word.{Word}
use Rattle.sk_lex.specs.declared.token.Word.TheVariants as word
use Rattle.sk_rows.specs.Names.{is_name}
use Rattle.sk_rows.specs.declared.value.Value.{Value}
use Rattle.sk_rows.specs.declared.expr.Expr.{Expr}
use Rattle.sk_rows.specs.declared.statement.Begun.{Begun}
use Rattle.sk_rows.specs.declared.statement.Begun.TheVariants as begun
use Rattle.sk_rows.specs.declared.statement.SetItem.{SetItem}
use Rattle.sk_rows.specs.declared.statement.Statement.{Statement}
use Rattle.sk_rows.specs.declared.statement.Statement.TheVariants as st
use Rattle.sk_lex.specs.Marks as mark
use Rattle.sk_parse.specs.declared.cursor.Sign.TheVariants as sign
use Rattle.sk_parse.specs.Input.{Input, Parser, and_then, pure, refuse, ◌<$>◌, ◌>>=◌, ◌>>◌, next, sees, same_key, after, expect, listed, listed_from, take_some}
use Rattle.sk_parse.specs.Terms.{name, literal, plain, negative}
use Rattle.sk_parse.specs.Grammar.{expr}
use Rattle.sk_parse.specs.Rules.{IsLiteral}
use Rattle.sk_parse.specs.Saying.{AreListed, AreMore, AreShown, IsBegun, IsGrammar, IsName, IsSet, IsWhere, Says}
use Rattle.sk_parse.specs.Statements.{begin, condition, delete, insert, said, select, set_item, select_list, update, whole}
use Rattle.sk_parse.proofs.Sound.{Gave}
use Rattle.sk_parse.proofs.Complete.{Ends, derived_is_read, expr_read}
use Rattle.sk_parse.proofs.SoundStatement.{whole_sound}

-- an item is read where such words follow
abbrev Completes : {A : Type 0} → Parser A → (List Word → A → Type 0) → (Input → Type 0) → Type 0
Completes {A} p Item Behind = (ws : List Word) (x : A) → Item ws x → (r : Input) → Behind r → Gave (p (ws ++ r)) x r

abbrev Anything : Input → Type 0
Anything r = Unit {0}

name_read : Completes name IsName Anything
unfolding name
name_read ws t is r _ =
    subst (λ z. Gave (name (z ++ r)) t r) (sym is.0) (ap (λ b. take_some (cond b (Some t) None) (word.Name t ∷ r)) is.1)

literal_read : Completes literal IsLiteral Anything
unfolding literal plain negative after sees same_key
literal_read _ _ (IsLiteral.plain (word.Number k) v at) r _ = ap (λ f. take_some f (word.Number k ∷ r)) at
literal_read _ _ (IsLiteral.plain (word.Text t) v at) r _ = ap (λ f. take_some f (word.Text t ∷ r)) at
literal_read _ _ (IsLiteral.plain (word.Key k) v at) r _ = ap (λ f. take_some f (word.Key k ∷ r)) at
literal_read _ _ (IsLiteral.plain _ v at) r _ = absurd cc
literal_read _ _ (IsLiteral.negative w v at) r _ = ap (λ f. take_some f (w ∷ r)) at

-- ---- lists

no_more : {A : Type 0} (p : Parser A) (n : ℕ) (found : List A) (r : Input) → sees (sign.Mark mark.comma mark.none) r ≡ false → Gave (listed_from p n found r) (found ++ []) r
unfolding listed_from after
no_more p zero found r none = ap (λ l. Ok (l, r)) (sym (append-nil found))
no_more p (suc n) found r none =
    ap (λ t. cond t (p >>= (λ x. listed_from p n (found ++ x ∷ []))) (pure found) (cond t (next r) r)) none ∙ ap (λ l. Ok (l, r)) (sym (append-nil found))

-- a turn of the list
turn : {A : Type 0} (p : Parser A) (n : ℕ) (found : List A) (i : Input) (x : A) (r : Input) → Gave (p i) x r
    → listed_from p (suc n) found (word.Mark mark.comma mark.none ∷ i) ≡ listed_from p n (found ++ x ∷ []) r
unfolding listed_from after sees
turn p n found i x r is = ap (λ out. and_then out (λ y. listed_from p n (found ++ y ∷ []))) is

module _ {A : Type 0} (p : Parser A) (Item : List Word → A → Type 0) (Behind : Input → Type 0) (completes : Completes p Item Behind)
    (at_comma : (j : Input) → Behind (word.Mark mark.comma mark.none ∷ j)) where
  behind_item : (xs : List A) (ws : List Word) → AreMore Item ws xs → (r : Input) → Behind r → Behind (ws ++ r)
  behind_item [] ws is r ends = subst (λ z. Behind (z ++ r)) (sym is) ends
  behind_item (x ∷ xs) ws is r ends = subst (λ z. Behind (z ++ r)) (sym is.2) (at_comma ((is.0 ++ is.1) ++ r))

  more_read : (xs : List A) (ws : List Word) → AreMore Item ws xs → (n : ℕ) (found : List A) (r : Input) → length (ws ++ r) ≤ n → Behind r → sees (sign.Mark mark.comma mark.none) r ≡ false
      → Gave (listed_from p n found (ws ++ r)) (found ++ xs) r
  more_read [] ws is n found r few ends none = subst (λ z. Gave (listed_from p n found (z ++ r)) (found ++ []) r) (sym is) (no_more p n found r none)
  more_read (x ∷ xs) ws is zero found r few ends none =
      let e = ap (λ z. length (z ++ r)) is.2 in absurd (omega arith)
  more_read (x ∷ xs) ws is (suc n) found r few ends none =
      let rest : (is.0 ++ is.1) ++ r ≡ is.0 ++ (is.1 ++ r) = append_assoc is.0 is.1 r in
      let words : ws ++ r ≡ word.Mark mark.comma mark.none ∷ is.0 ++ (is.1 ++ r) = ap (λ z. z ++ r) is.2 ∙ ap (λ z. word.Mark mark.comma mark.none ∷ z) rest in
      let item = completes is.0 x is.3 (is.1 ++ r) (behind_item xs is.1 is.4 r ends) in
      let fewer : length (is.1 ++ r) ≤ n =
      let e = ap length words in let f = length-append is.0 (is.1 ++ r) in omega arith in
      ap (listed_from p (suc n) found) words
      ∙ turn p n found (is.0 ++ (is.1 ++ r)) x (is.1 ++ r) item
      ∙ more_read xs is.1 is.4 n (found ++ x ∷ []) r fewer ends none
      ∙ ap (λ l. Ok (l, r)) (append_assoc found (x ∷ []) xs)

  pub listed_read : (xs : List A) (ws : List Word) → AreListed Item ws xs → (r : Input) → Behind r → sees (sign.Mark mark.comma mark.none) r ≡ false → Gave (listed p (ws ++ r)) xs r
  unfolding listed
  listed_read [] ws is r ends none = absurd is
  listed_read (x ∷ xs) ws is r ends none =
      let words : ws ++ r ≡ is.0 ++ (is.1 ++ r) = ap (λ z. z ++ r) is.2 ∙ append_assoc is.0 is.1 r in
      let item = completes is.0 x is.3 (is.1 ++ r) (behind_item xs is.1 is.4 r ends) in
      ap (listed p) words
      ∙ ap (λ out. and_then out (λ y j. listed_from p (length j) (y ∷ []) j)) item
      ∙ more_read xs is.1 is.4 (length (is.1 ++ r)) (x ∷ []) r (omega arith) ends none

-- ---- parts of statements

where_read : (ws : List Word) (c : Option Expr) → IsWhere ws c → Gave (condition ws) c []
unfolding condition after sees same_key
where_read ws None is = subst (λ z. Gave (condition z) None []) (sym is) refl
where_read ws (Some e) is =
    subst (λ z. Gave (condition z) (Some e) []) (sym is.1) (ap (λ out. and_then out (λ x. pure (Some x))) (derived_is_read 64 is.0 e is.2))

-- what follows the last expression of a statement
record Follows (r : Input) : Type 0 where
  ends : Ends r
  no_comma : sees (sign.Mark mark.comma mark.none) r ≡ false

where_follows : (ws : List Word) (c : Option Expr) → IsWhere ws c → Follows ws
unfolding sees same_key
where_follows ws None is = subst Follows (sym is) (record { ends = (((((tt, refl), refl), refl), refl), refl); no_comma = refl })
where_follows ws (Some e) is = subst Follows (sym is.1) (record { ends = (((((tt, refl), refl), refl), refl), refl); no_comma = refl })

comma_ends : (j : Input) → Ends (word.Mark mark.comma mark.none ∷ j)
comma_ends j = (((((tt, refl), refl), refl), refl), refl)

set_read : Completes set_item IsSet Ends
unfolding set_item name expect sees
set_read ws item is r ends =
    let f = λ (value : Expr). pure {A = SetItem} (record { column = item.column; value = value }) in
    let i : Input = word.Mark mark.equals mark.none ∷ is.0 ++ r in
    subst (λ z. Gave (set_item (z ++ r)) item r) (sym is.1)
    (ap (λ b. and_then (take_some (cond b (Some item.column) None) (word.Name item.column ∷ i)) (λ column. expect (sign.Mark mark.equals mark.none) >> (expr >>= (λ value. pure (record { column = column; value = value }))))) is.2
    ∙ ap (λ out. and_then out f) (expr_read is.0 item.value is.3 r ends))

name_first : (ws : List Word) (names : List (List ℕ)) → AreListed IsName ws names → (r : Input) → sees (sign.Mark mark.star mark.none) (ws ++ r) ≡ false
unfolding sees
name_first ws [] is r = absurd is
name_first ws (t ∷ ts) is r = subst (λ z. sees (sign.Mark mark.star mark.none) (z ++ r) ≡ false) (sym (is.2 ∙ ap (λ z. z ++ is.1) is.3.0)) refl

shown_read : (ws : List Word) (c : Option (List (List ℕ))) → AreShown ws c → (r : Input) → sees (sign.Mark mark.comma mark.none) r ≡ false → Gave (select_list (ws ++ r)) c r
unfolding select_list after sees
shown_read ws None is r none = subst (λ z. Gave (select_list (z ++ r)) None r) (sym is) refl
shown_read ws (Some names) is r none =
    let i = ws ++ r in
    ap (λ t. cond t (pure None) (Some <$> listed name) (cond t (next i) i)) (name_first ws names is r)
    ∙ ap (λ out. and_then out (λ x. pure (Some x))) (listed_read name IsName Anything name_read (λ _. tt) names ws is r tt none)

-- ---- statements

begun_read : (us : List Word) (b : Begun) → IsBegun us b → Gave (begin us) (st.Begin b) []
unfolding begin after sees same_key
begun_read us begun.Cross is = subst (λ z. Gave (begin z) (st.Begin begun.Cross) []) (sym is) refl
begun_read us begun.Mem is = subst (λ z. Gave (begin z) (st.Begin begun.Mem) []) (sym is) refl
begun_read us begun.Store is = subst (λ z. Gave (begin z) (st.Begin begun.Store) []) (sym is) refl

insert_read : (us : List Word) (t : List ℕ) (values : List Value) → is_name t ≡ true → AreListed IsLiteral us values
    → Gave (insert (word.Key key.Into ∷ word.Name t ∷ word.Key key.Values ∷ word.Mark mark.open_paren mark.none ∷ us ++ word.Mark mark.close_paren mark.none ∷ [])) (st.Insert t values) []
unfolding insert expect sees same_key name
insert_read us t values named items =
    let i : Input = word.Key key.Values ∷ word.Mark mark.open_paren mark.none ∷ us ++ word.Mark mark.close_paren mark.none ∷ [] in
    ap (λ b. and_then (take_some (cond b (Some t) None) (word.Name t ∷ i)) (λ t. expect (sign.Key key.Values) >> (expect (sign.Mark mark.open_paren mark.none) >> (listed literal >>= (λ vs. expect (sign.Mark mark.close_paren mark.none) >> pure (st.Insert t vs)))))) named
    ∙ ap (λ out. and_then out (λ vs. expect (sign.Mark mark.close_paren mark.none) >> pure (st.Insert t vs))) (listed_read literal IsLiteral Anything literal_read (λ _. tt) values us items (word.Mark mark.close_paren mark.none ∷ []) tt refl)

from_read : (us : List Word) (t : List ℕ) (c : Option Expr) (f : List ℕ → Option Expr → Statement) → is_name t ≡ true → IsWhere us c
    → Gave ((expect (sign.Key key.From) >> (name >>= (λ t. condition >>= (λ c. pure (f t c))))) (word.Key key.From ∷ word.Name t ∷ us)) (f t c) []
unfolding expect sees same_key name
from_read us t c f named is =
    ap (λ b. and_then (take_some (cond b (Some t) None) (word.Name t ∷ us)) (λ t. condition >>= (λ c. pure (f t c)))) named
    ∙ ap (λ out. and_then out (λ c. pure (f t c))) (where_read us c is)

select_read : (us vs : List Word) (t : List ℕ) (columns : Option (List (List ℕ))) (c : Option Expr) → AreShown us columns → is_name t ≡ true → IsWhere vs c
    → Gave (select (us ++ word.Key key.From ∷ word.Name t ∷ vs)) (st.Select t columns c) []
unfolding select sees
select_read us vs t columns c shows named is =
    ap (λ out. and_then out (λ columns. expect (sign.Key key.From) >> (name >>= (λ t. condition >>= (λ c. pure (st.Select t columns c)))))) (shown_read us columns shows (word.Key key.From ∷ word.Name t ∷ vs) refl)
    ∙ from_read vs t c (λ t c. st.Select t columns c) named is

update_read : (us vs : List Word) (t : List ℕ) (sets : List SetItem) (c : Option Expr) → is_name t ≡ true → AreListed IsSet us sets → IsWhere vs c
    → Gave (update (word.Name t ∷ word.Key key.Set ∷ us ++ vs)) (st.Update t sets c) []
unfolding update expect sees same_key name
update_read us vs t sets c named items is =
    let follows = where_follows vs c is in
    ap (λ b. and_then (take_some (cond b (Some t) None) (word.Name t ∷ word.Key key.Set ∷ us ++ vs)) (λ t. expect (sign.Key key.Set) >> (listed set_item >>= (λ sets. condition >>= (λ c. pure (st.Update t sets c)))))) named
    ∙ ap (λ out. and_then out (λ sets. condition >>= (λ c. pure (st.Update t sets c)))) (listed_read set_item IsSet Ends set_read comma_ends sets us items vs follows.ends follows.no_comma)
    ∙ ap (λ out. and_then out (λ c. pure (st.Update t sets c))) (where_read vs c is)

delete_read : (us : List Word) (t : List ℕ) (c : Option Expr) → is_name t ≡ true → IsWhere us c → Gave (delete (word.Key key.From ∷ word.Name t ∷ us)) (st.Delete t c) []
unfolding delete
delete_read us t c named is = from_read us t c (λ t c. st.Delete t c) named is

said_read : (ws : List Word) (s : Statement) → Says ws s → Gave (said ws) s []
unfolding said
said_read ws (st.Begin b) is = subst (λ z. Gave (said z) (st.Begin b) []) (sym is.1) (begun_read is.0 b is.2)
said_read ws st.Commit is = subst (λ z. Gave (said z) st.Commit []) (sym is) refl
said_read ws st.Rollback is = subst (λ z. Gave (said z) st.Rollback []) (sym is) refl
said_read ws (st.Insert t values) is = subst (λ z. Gave (said z) (st.Insert t values) []) (sym is.1) (insert_read is.0 t values is.2 is.3)
said_read ws (st.Select t columns c) is = subst (λ z. Gave (said z) (st.Select t columns c) []) (sym is.2) (select_read is.0 is.1 t columns c is.3 is.4 is.5)
said_read ws (st.Update t sets c) is = subst (λ z. Gave (said z) (st.Update t sets c) []) (sym is.2) (update_read is.0 is.1 t sets c is.3 is.4 is.5)
said_read ws (st.Delete t c) is = subst (λ z. Gave (said z) (st.Delete t c) []) (sym is.1) (delete_read is.0 t c is.2 is.3)

pub whole_read : (ws : List Word) (s : Statement) → Says ws s → Gave (whole ws) s []
unfolding whole
whole_read ws s is = ap (λ out. and_then out (λ found j. cond (length j == 0) (Ok (found, j)) (refuse j))) (said_read ws s is)

pub grammar : IsGrammar
grammar ws s = (whole_read ws s, whole_sound ws s)
