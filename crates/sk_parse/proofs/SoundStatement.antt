-- What is read as a statement is said by the grammar.
use Rattle.std.proofs.Common.{◌≡◌, ◌==◌, ℕ, zero, suc, Bool, true, false, cond, List, [], ◌∷◌, ◌++◌, length, refl, sym, ap, subst, ◌∙◌, append_assoc, append-nil, arith, Option, Some, None}
use Rattle.std.specs.Prelude.{Ok}
use Rattle.std.proofs.lemmas.Bool.Decides.{nat_tests}
use Rattle.sk_lex.specs.declared.token.Keyword.{Keyword}
use Rattle.sk_lex.specs.declared.token.Keyword.TheVariants as key
use Rattle.sk_lex.specs.declared.token.Word.{Word}
use Rattle.sk_lex.specs.declared.token.Word.TheVariants as word
use Rattle.sk_rows.specs.Names.{is_name}
use Rattle.sk_rows.specs.declared.expr.Expr.{Expr}
use Rattle.sk_rows.specs.declared.statement.Begun.TheVariants as begun
use Rattle.sk_rows.specs.declared.statement.SetItem.{SetItem}
use Rattle.sk_rows.specs.declared.statement.Statement.{Statement}
use Rattle.sk_rows.specs.declared.statement.Statement.TheVariants as st
use Rattle.sk_lex.specs.Marks as mark
use Rattle.sk_parse.specs.declared.cursor.Sign.TheVariants as sign
use Rattle.sk_parse.specs.Input.{Input, Parser, pure, refuse, ◌<$>◌, ◌>>=◌, ◌>>◌, next, sees, after, expect, listed, listed_from}
use Rattle.sk_parse.specs.Terms.{name_of, name, literal}
use Rattle.sk_parse.specs.Grammar.{expr}
use Rattle.sk_parse.specs.Rules.{IsLiteral}
use Rattle.sk_parse.specs.Saying.{AreListed, AreMore, AreShown, IsExpr, IsName, IsSet, IsWhere, Says}
use Rattle.sk_parse.specs.Statements.{begin, behind, condition, delete, insert, said, select, set_item, select_list, update, whole}
use Rattle.sk_parse.proofs.Sound.{Gave, bind_ok, same, never, key_at, mark_at, taken_ok, name_ok, sound_literal}
use Rattle.sk_parse.proofs.SoundExpr.{expect_ok, sound_expr}

-- what a parser reads is an item, before what is left
abbrev pub Reads : {A : Type 0} → Parser A → (List Word → A → Type 0) → Type 0
Reads {A} p Item = (i r : Input) (x : A) → Gave (p i) x r → (ws : List Word) × (i ≡ ws ++ r) × Item ws x

pub reads_name : Reads name IsName
unfolding name
reads_name i r t is =
    let one = taken_ok name_of i t r is in
    let named = name_ok one.0 t one.2 in
    (word.Name t ∷ [], one.1 ∙ ap (λ w. w ∷ r) named.0, (refl, named.1))

reads_literal : Reads literal IsLiteral
reads_literal i r v is = sound_literal i r v is

reads_expr : Reads expr IsExpr
reads_expr i r x is = sound_expr 64 i r x is

-- ---- lists

abbrev More : {A : Type 0} → (List Word → A → Type 0) → List A → Input → List A → Input → Type 0
More {A} Item found i xs r = (ys : List A) × (ws : List Word) × (xs ≡ found ++ ys) × (i ≡ ws ++ r) × AreMore Item ws ys

no_more : {A : Type 0} (Item : List Word → A → Type 0) (found : List A) (i : Input) (xs : List A) (r : Input) → Gave (pure found i) xs r → More Item found i xs r
no_more Item found i xs r is =
    let end = same found xs i r is in ([], [], sym end.0 ∙ sym (append-nil found), end.1, refl)

reads_more : {A : Type 0} (p : Parser A) (Item : List Word → A → Type 0) → Reads p Item
    → (n : ℕ) (found : List A) (i : Input) (xs : List A) (r : Input) → Gave (listed_from p n found i) xs r → More Item found i xs r
unfolding listed_from after
reads_more p Item reads zero found i xs r is = no_more Item found i xs r is
reads_more {A} p Item reads (suc n) found i xs r is = by (sees (sign.Mark mark.comma mark.none) i) refl is (reads_more p Item reads n)
  where
    by : (t : Bool) → sees (sign.Mark mark.comma mark.none) i ≡ t
        → Gave (cond t (p >>= (λ x. listed_from p n (found ++ x ∷ []))) (pure found) (cond t (next i) i)) xs r
        → ((longer : List A) (j : Input) (ys : List A) (q : Input) → Gave (listed_from p n longer j) ys q → More Item longer j ys q)
        → More Item found i xs r
    by false at e ih = no_more Item found i xs r e
    by true at e ih =
        let a = bind_ok (p (next i)) (λ x. listed_from p n (found ++ x ∷ [])) xs r e in
        let item = reads (next i) a.1 a.0 a.2 in
        let rest = ih (found ++ a.0 ∷ []) a.1 xs r a.3 in (
          a.0 ∷ rest.0,
          word.Mark mark.comma mark.none ∷ item.0 ++ rest.1,
          rest.2 ∙ append_assoc found (a.0 ∷ []) rest.0,
          mark_at mark.comma mark.none i at ∙ ap (λ z. word.Mark mark.comma mark.none ∷ z) (item.1 ∙ ap (λ z. item.0 ++ z) rest.3 ∙ sym (append_assoc item.0 rest.1 r)),
          (item.0, rest.1, refl, item.2, rest.4),
        )

pub reads_listed : {A : Type 0} (p : Parser A) (Item : List Word → A → Type 0) → Reads p Item → Reads (listed p) (AreListed Item)
unfolding listed
reads_listed p Item reads i r xs is =
    let a = bind_ok (p i) (λ x j. listed_from p (length j) (x ∷ []) j) xs r is in
    let item = reads i a.1 a.0 a.2 in
    let rest = reads_more p Item reads (length a.1) (a.0 ∷ []) a.1 xs r a.3 in (
      item.0 ++ rest.1,
      item.1 ∙ ap (λ z. item.0 ++ z) rest.3 ∙ sym (append_assoc item.0 rest.1 r),
      subst (AreListed Item (item.0 ++ rest.1)) (sym rest.2) (item.0, rest.1, refl, item.2, rest.4),
    )

-- ---- parts of statements

reads_where : (i : Input) (c : Option Expr) → Gave (condition i) c [] → IsWhere i c
unfolding condition after
reads_where i c is = by (sees (sign.Key key.Where) i) refl is
  where
    by : (t : Bool) → sees (sign.Key key.Where) i ≡ t → Gave (cond t (Some <$> expr) (pure None) (cond t (next i) i)) c [] → IsWhere i c
    by true at e =
        let a = bind_ok (expr (next i)) (λ x. pure (Some x)) c [] e in
        let x = reads_expr (next i) a.1 a.0 a.2 in
        let end = same (Some a.0) c a.1 [] a.3 in
        let words : next i ≡ x.0 = x.1 ∙ ap (λ z. x.0 ++ z) end.1 ∙ append-nil x.0 in
        subst (IsWhere i) end.0 (x.0, key_at key.Where i at ∙ ap (λ z. word.Key key.Where ∷ z) words, x.2)
    by false at e = let end = same None c i [] e in subst (IsWhere i) end.0 end.1

reads_set : Reads set_item IsSet
unfolding set_item
reads_set i r item is =
    let a = bind_ok (name i) (λ column. expect (sign.Mark mark.equals mark.none) >> (expr >>= (λ value. pure (record { column = column; value = value })))) item r is in
    let n = reads_name i a.1 a.0 a.2 in
    let b = bind_ok (expect (sign.Mark mark.equals mark.none) a.1) (λ _. expr >>= (λ value. pure (record { column = a.0; value = value }))) item r a.3 in
    let eq = expect_ok (sign.Mark mark.equals mark.none) a.1 b.0 b.1 b.2 in
    let c = bind_ok (expr b.1) (λ value. pure (record { column = a.0; value = value })) item r b.3 in
    let x = reads_expr b.1 c.1 c.0 c.2 in
    let made : SetItem = record { column = a.0; value = c.0 } in
    let end = same made item c.1 r c.3 in (
      word.Name a.0 ∷ word.Mark mark.equals mark.none ∷ x.0,
      n.1 ∙ ap (λ z. z ++ a.1) n.2.0 ∙ ap (λ z. word.Name a.0 ∷ z) (mark_at mark.equals mark.none a.1 eq.0 ∙ ap (λ z. word.Mark mark.equals mark.none ∷ z) (eq.1 ∙ x.1 ∙ ap (λ z. x.0 ++ z) end.1)),
      subst (IsSet (word.Name a.0 ∷ word.Mark mark.equals mark.none ∷ x.0)) end.0 (x.0, refl, n.2.1, x.2),
    )

reads_shown : Reads select_list AreShown
unfolding select_list after
reads_shown i r c is = by (sees (sign.Mark mark.star mark.none) i) refl is
  where
    by : (t : Bool) → sees (sign.Mark mark.star mark.none) i ≡ t → Gave (cond t (pure None) (Some <$> listed name) (cond t (next i) i)) c r → (ws : List Word) × (i ≡ ws ++ r) × AreShown ws c
    by true at e =
        let end = same None c (next i) r e in
        (word.Mark mark.star mark.none ∷ [], mark_at mark.star mark.none i at ∙ ap (λ z. word.Mark mark.star mark.none ∷ z) end.1, subst (AreShown (word.Mark mark.star mark.none ∷ [])) end.0 refl)
    by false at e =
        let a = bind_ok (listed name i) (λ x. pure (Some x)) c r e in
        let names = reads_listed name IsName reads_name i a.1 a.0 a.2 in
        let end = same (Some a.0) c a.1 r a.3 in
        (names.0, names.1 ∙ ap (λ z. names.0 ++ z) end.1, subst (AreShown names.0) end.0 names.2)

-- ---- statements, to the end

begin_sound : (i : Input) (s : Statement) → Gave (begin i) s [] → Says (word.Key key.Begin ∷ i) s
unfolding begin after
begin_sound i s is = by (sees (sign.Key key.Memory) i) refl is
  where
    store : (t : Bool) → sees (sign.Key key.Storage) i ≡ t → Gave (cond t (pure (st.Begin begun.Store)) (pure (st.Begin begun.Cross)) (cond t (next i) i)) s [] → Says (word.Key key.Begin ∷ i) s
    store true at e =
        let end = same (st.Begin begun.Store) s (next i) [] e in
        subst (Says (word.Key key.Begin ∷ i)) end.0 (i, refl, key_at key.Storage i at ∙ ap (λ z. word.Key key.Storage ∷ z) end.1)
    store false at e =
        let end = same (st.Begin begun.Cross) s i [] e in subst (Says (word.Key key.Begin ∷ i)) end.0 (i, refl, end.1)

    by : (t : Bool) → sees (sign.Key key.Memory) i ≡ t
        → Gave (cond t (pure (st.Begin begun.Mem)) (behind (sign.Key key.Storage) (pure (st.Begin begun.Store)) (pure (st.Begin begun.Cross))) (cond t (next i) i)) s [] → Says (word.Key key.Begin ∷ i) s
    by true at e =
        let end = same (st.Begin begun.Mem) s (next i) [] e in
        subst (Says (word.Key key.Begin ∷ i)) end.0 (i, refl, key_at key.Memory i at ∙ ap (λ z. word.Key key.Memory ∷ z) end.1)
    by false at e = store (sees (sign.Key key.Storage) i) refl e

insert_sound : (i : Input) (s : Statement) → Gave (insert i) s [] → Says (word.Key key.Insert ∷ i) s
unfolding insert
insert_sound i s is =
    let a = bind_ok (expect (sign.Key key.Into) i) (λ _. name >>= (λ t. expect (sign.Key key.Values) >> (expect (sign.Mark mark.open_paren mark.none) >> (listed literal >>= (λ vs. expect (sign.Mark mark.close_paren mark.none) >> pure (st.Insert t vs)))))) s [] is in
    let into = expect_ok (sign.Key key.Into) i a.0 a.1 a.2 in
    let b = bind_ok (name a.1) (λ t. expect (sign.Key key.Values) >> (expect (sign.Mark mark.open_paren mark.none) >> (listed literal >>= (λ vs. expect (sign.Mark mark.close_paren mark.none) >> pure (st.Insert t vs))))) s [] a.3 in
    let n = reads_name a.1 b.1 b.0 b.2 in
    let c = bind_ok (expect (sign.Key key.Values) b.1) (λ _. expect (sign.Mark mark.open_paren mark.none) >> (listed literal >>= (λ vs. expect (sign.Mark mark.close_paren mark.none) >> pure (st.Insert b.0 vs)))) s [] b.3 in
    let values = expect_ok (sign.Key key.Values) b.1 c.0 c.1 c.2 in
    let d = bind_ok (expect (sign.Mark mark.open_paren mark.none) c.1) (λ _. listed literal >>= (λ vs. expect (sign.Mark mark.close_paren mark.none) >> pure (st.Insert b.0 vs))) s [] c.3 in
    let opened = expect_ok (sign.Mark mark.open_paren mark.none) c.1 d.0 d.1 d.2 in
    let e = bind_ok (listed literal d.1) (λ vs. expect (sign.Mark mark.close_paren mark.none) >> pure (st.Insert b.0 vs)) s [] d.3 in
    let items = reads_listed literal IsLiteral reads_literal d.1 e.1 e.0 e.2 in
    let f = bind_ok (expect (sign.Mark mark.close_paren mark.none) e.1) (λ _. pure (st.Insert b.0 e.0)) s [] e.3 in
    let closed = expect_ok (sign.Mark mark.close_paren mark.none) e.1 f.0 f.1 f.2 in
    let end = same (st.Insert b.0 e.0) s f.1 [] f.3 in
    let back : e.1 ≡ word.Mark mark.close_paren mark.none ∷ [] = mark_at mark.close_paren mark.none e.1 closed.0 ∙ ap (λ z. word.Mark mark.close_paren mark.none ∷ z) (closed.1 ∙ end.1) in
    let list : c.1 ≡ word.Mark mark.open_paren mark.none ∷ items.0 ++ word.Mark mark.close_paren mark.none ∷ [] = mark_at mark.open_paren mark.none c.1 opened.0 ∙ ap (λ z. word.Mark mark.open_paren mark.none ∷ z) (opened.1 ∙ items.1 ∙ ap (λ z. items.0 ++ z) back) in
    let named : a.1 ≡ word.Name b.0 ∷ word.Key key.Values ∷ word.Mark mark.open_paren mark.none ∷ items.0 ++ word.Mark mark.close_paren mark.none ∷ [] =
    n.1 ∙ ap (λ z. z ++ b.1) n.2.0 ∙ ap (λ z. word.Name b.0 ∷ z) (key_at key.Values b.1 values.0 ∙ ap (λ z. word.Key key.Values ∷ z) (values.1 ∙ list)) in
    let words : i ≡ word.Key key.Into ∷ word.Name b.0 ∷ word.Key key.Values ∷ word.Mark mark.open_paren mark.none ∷ items.0 ++ word.Mark mark.close_paren mark.none ∷ [] =
    key_at key.Into i into.0 ∙ ap (λ z. word.Key key.Into ∷ z) (into.1 ∙ named) in
    subst (Says (word.Key key.Insert ∷ i)) end.0 (items.0, ap (λ z. word.Key key.Insert ∷ z) words, n.2.1, items.2)

-- name [ WHERE expr ], behind its keyword
from_sound : (k : Keyword) (i : Input) (f : List ℕ → Option Expr → Statement) (s : Statement) → Gave ((expect (sign.Key k) >> (name >>= (λ t. condition >>= (λ c. pure (f t c))))) i) s []
    → (t : List ℕ) × (c : Option Expr) × (vs : List Word) × (i ≡ word.Key k ∷ word.Name t ∷ vs) × (is_name t ≡ true) × IsWhere vs c × (f t c ≡ s)
from_sound k i f s is =
    let a = bind_ok (expect (sign.Key k) i) (λ _. name >>= (λ t. condition >>= (λ c. pure (f t c)))) s [] is in
    let from = expect_ok (sign.Key k) i a.0 a.1 a.2 in
    let b = bind_ok (name a.1) (λ t. condition >>= (λ c. pure (f t c))) s [] a.3 in
    let n = reads_name a.1 b.1 b.0 b.2 in
    let d = bind_ok (condition b.1) (λ c. pure (f b.0 c)) s [] b.3 in
    let end = same (f b.0 d.0) s d.1 [] d.3 in
    let cond_is : Gave (condition b.1) d.0 [] = d.2 ∙ ap (λ z. Ok (d.0, z)) end.1 in (
      b.0,
      d.0,
      b.1,
      key_at k i from.0 ∙ ap (λ z. word.Key k ∷ z) (from.1 ∙ n.1 ∙ ap (λ z. z ++ b.1) n.2.0),
      n.2.1,
      reads_where b.1 d.0 cond_is,
      end.0,
    )

select_sound : (i : Input) (s : Statement) → Gave (select i) s [] → Says (word.Key key.Select ∷ i) s
unfolding select
select_sound i s is =
    let a = bind_ok (select_list i) (λ columns. expect (sign.Key key.From) >> (name >>= (λ t. condition >>= (λ c. pure (st.Select t columns c))))) s [] is in
    let columns = reads_shown i a.1 a.0 a.2 in
    let rest = from_sound key.From a.1 (λ t c. st.Select t a.0 c) s a.3 in
    subst (Says (word.Key key.Select ∷ i)) rest.6
    (columns.0, rest.2, ap (λ z. word.Key key.Select ∷ z) (columns.1 ∙ ap (λ z. columns.0 ++ z) rest.3), columns.2, rest.4, rest.5)

update_sound : (i : Input) (s : Statement) → Gave (update i) s [] → Says (word.Key key.Update ∷ i) s
unfolding update
update_sound i s is =
    let a = bind_ok (name i) (λ t. expect (sign.Key key.Set) >> (listed set_item >>= (λ sets. condition >>= (λ c. pure (st.Update t sets c))))) s [] is in
    let n = reads_name i a.1 a.0 a.2 in
    let b = bind_ok (expect (sign.Key key.Set) a.1) (λ _. listed set_item >>= (λ sets. condition >>= (λ c. pure (st.Update a.0 sets c)))) s [] a.3 in
    let set = expect_ok (sign.Key key.Set) a.1 b.0 b.1 b.2 in
    let d = bind_ok (listed set_item b.1) (λ sets. condition >>= (λ c. pure (st.Update a.0 sets c))) s [] b.3 in
    let items = reads_listed set_item IsSet reads_set b.1 d.1 d.0 d.2 in
    let e = bind_ok (condition d.1) (λ c. pure (st.Update a.0 d.0 c)) s [] d.3 in
    let end = same (st.Update a.0 d.0 e.0) s e.1 [] e.3 in
    let cond_is : Gave (condition d.1) e.0 [] = e.2 ∙ ap (λ z. Ok (e.0, z)) end.1 in
    let words : i ≡ word.Name a.0 ∷ word.Key key.Set ∷ items.0 ++ d.1 =
    n.1 ∙ ap (λ z. z ++ a.1) n.2.0 ∙ ap (λ z. word.Name a.0 ∷ z) (key_at key.Set a.1 set.0 ∙ ap (λ z. word.Key key.Set ∷ z) (set.1 ∙ items.1)) in
    subst (Says (word.Key key.Update ∷ i)) end.0
    (items.0, d.1, ap (λ z. word.Key key.Update ∷ z) words, n.2.1, items.2, reads_where d.1 e.0 cond_is)

delete_sound : (i : Input) (s : Statement) → Gave (delete i) s [] → Says (word.Key key.Delete ∷ i) s
unfolding delete
delete_sound i s is =
    let rest = from_sound key.From i (λ t c. st.Delete t c) s is in
    subst (Says (word.Key key.Delete ∷ i)) rest.6 (rest.2, ap (λ z. word.Key key.Delete ∷ z) rest.3, rest.4, rest.5)

pub said_sound : (ws : List Word) (s : Statement) → Gave (said ws) s [] → Says ws s
unfolding said
said_sound [] s is = never _ s [] is
said_sound (word.Key key.Begin ∷ i) s is = begin_sound i s is
said_sound (word.Key key.Commit ∷ i) s is =
    let end = same st.Commit s i [] is in subst (Says (word.Key key.Commit ∷ i)) end.0 (ap (λ z. word.Key key.Commit ∷ z) end.1)
said_sound (word.Key key.Rollback ∷ i) s is =
    let end = same st.Rollback s i [] is in subst (Says (word.Key key.Rollback ∷ i)) end.0 (ap (λ z. word.Key key.Rollback ∷ z) end.1)
said_sound (word.Key key.Insert ∷ i) s is = insert_sound i s is
said_sound (word.Key key.Select ∷ i) s is = select_sound i s is
said_sound (word.Key key.Update ∷ i) s is = update_sound i s is
said_sound (word.Key key.Delete ∷ i) s is = delete_sound i s is
said_sound (_ ∷ i) s is = never _ s [] is

nothing_left : (j : Input) → (length j == 0) ≡ true → j ≡ []
nothing_left [] is = refl
nothing_left (w ∷ j) is = let bad : suc (length j) ≡ 0 = grind (arith, nat_tests) in absurd (omega arith)

pub whole_sound : (ws : List Word) (s : Statement) → Gave (whole ws) s [] → Says ws s
unfolding whole
whole_sound ws s is =
    let a = bind_ok (said ws) (λ found j. cond (length j == 0) (Ok (found, j)) (refuse j)) s [] is in
    by a.0 a.1 a.2 (length a.1 == 0) refl a.3
  where
    by : (found : Statement) (j : Input) → Gave (said ws) found j → (t : Bool) → (length j == 0) ≡ t → Gave (cond t (Ok (found, j)) (refuse j)) s [] → Says ws s
    by found j read true at e =
        let end = same found s j [] e in
        said_sound ws s (read ∙ ap (λ z. Ok (found, z)) end.1 ∙ ap (λ z. Ok (z, [])) end.0)
    by found j read false at e = never _ s [] e
