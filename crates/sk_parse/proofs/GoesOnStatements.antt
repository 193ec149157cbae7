-- Each statement goes on behind the words before one that is refused.
use Rattle.std.proofs.Common.{◌≡◌, ◌==◌, ℕ, Bool, true, false, cond, List, [], ◌∷◌, ◌++◌, length, refl, sym, ap, subst, ◌∙◌, append-nil, Option, Some, None, ◌⊎◌, inl, inr}
use Rattle.std.specs.Prelude.{Ok, Err}
use Rattle.sk_lex.specs.declared.token.Keyword.TheVariants as key
use Rattle.sk_lex.specs.declared.token.Word.{Word}
use Rattle.sk_lex.specs.declared.token.Word.TheVariants as word
use Rattle.sk_rows.specs.declared.value.Value.{Value}
use Rattle.sk_rows.specs.declared.expr.Expr.{Expr}
use Rattle.sk_rows.specs.declared.statement.Begun.TheVariants as begun
use Rattle.sk_rows.specs.declared.statement.SetItem.{SetItem}
use Rattle.sk_rows.specs.declared.statement.Statement.{Statement}
use Rattle.sk_rows.specs.declared.statement.Statement.TheVariants as st
use Rattle.sk_lex.specs.Marks as mark
use Rattle.sk_parse.specs.declared.cursor.Sign.TheVariants as sign
use Rattle.sk_parse.specs.Input.{Input, Outcome, Parser, and_then, pure, refuse, ◌<$>◌, ◌>>=◌, ◌>>◌, after, expect, first, first_key, is_at, listed, next, same_key, sees}
use Rattle.sk_parse.specs.Terms.{literal, name}
use Rattle.sk_parse.specs.Grammar.{expr}
use Rattle.sk_parse.specs.Saying.{Says}
use Rattle.sk_parse.specs.Statements.{begin, condition, delete, insert, said, said_by, select, set_item, select_list, update, whole}
use Rattle.sk_parse.proofs.Complete.{Ends}
use Rattle.sk_parse.proofs.Local.{local_begin, local_said}
use Rattle.sk_parse.proofs.GoesOn.{Completion, Fills, IsLocal, Kind, Rest, Tail, Weak, rest_of, rest_pure, tail_first, weak_first}
use Rattle.sk_parse.proofs.GoesOnRules.{Anything, NoComma, bind_local, both, chosen, chosen_local, ext, fill_both, fill_expect, fill_expr, fill_listed, fill_literal, fill_mapped, fill_name, fill_tailed, front_is, front_sees, is_chosen, is_eaten, is_pure_local, kind_tail_cond, mapped, next_local, one, some_name, tail_end, tailed, weak_expect, weak_expr, weak_if, weak_listed, weak_literal, weak_name, weak_nothing}
use Rattle.sk_parse.proofs.Sound.{Gave, bind_ok, same}
use Rattle.sk_parse.proofs.SoundStatement.{said_sound}

abbrev err_of : {A : Type 0} → ℕ → Outcome A → ℕ
err_of d (Ok q) = d
err_of d (Err k) = k

-- nothing is left
abbrev IsEnd : Input → Type 0
IsEnd z = z ≡ []

rest_tail : {A : Type 0} (p : Parser A) (Follow : Input → Type 0) → Tail p Follow → Rest p Follow
rest_tail p Follow tail = record {
  leaves = tail.leaves;
  stable = tail.stable;
  completes = λ i n is. let c = tail.completes i n is in (c.0 ∷ c.1, c.2, c.3, c.4, c.5, c.6, c.7);
}

tail_mapped : {A B : Type 0} (f : A → B) (p : Parser A) (Follow : Input → Type 0) → Tail p Follow → Tail (f <$> p) Follow
tail_mapped {A} {B} f p Follow tail = record {
  local = bind_local p (λ x. pure (f x)) tail.local (λ x. is_pure_local (f x));
  leaves = λ i r b is.
      let s = bind_ok (p i) (λ x. pure (f x)) b r is in
      let l = tail.leaves i s.1 s.0 s.2 in
      (l.0, l.1 ∙ ap (λ z. l.0 ++ z) (same (f s.0) b s.1 r s.3).1);
  stops = (f tail.stops.0, λ z stop. ap (λ o. and_then o (λ x. pure (f x))) (tail.stops.1 z stop));
  stable = λ us r b is z stop.
      let s = bind_ok (p (us ++ r)) (λ x. pure (f x)) b r is in
      let e = same (f s.0) b s.1 r s.3 in
      let here : Gave (p (us ++ r)) s.0 r = s.2 ∙ ap (λ k. Ok (s.0, k)) e.1 in
      ap (λ o. and_then o (λ x. pure (f x))) (tail.stable us r s.0 here z stop) ∙ ap (λ c. Ok (c, z)) e.0;
  completes = λ i n is. by i n (p i) refl is;
}
  where
    by : (i : Input) (n : ℕ) (o : Outcome A) → p i ≡ o → and_then o (λ x. pure (f x)) ≡ Err n → Completion (f <$> p) Follow i n
    by i n (Ok q) at failed = absurd cc
    by i n (Err m) at failed =
        let c = tail.completes i m at in
        let len : m ≡ n = ap (err_of m) failed in
        (c.0, c.1, c.2, c.3, f c.4, c.5, sym len ∙ c.6, λ z stop. ap (λ o. and_then o (λ x. pure (f x))) (c.7 z stop))

ends_nothing : Ends []
ends_nothing = (((((tt, refl), refl), refl), refl), refl)

-- ---- [ WHERE expr ]

some_expr : Parser (Option Expr)
some_expr = Some <$> expr

weak_some : Weak some_expr IsEnd
unfolding some_expr
weak_some = tailed expr (λ x. pure (Some x)) Ends IsEnd weak_expr (λ x. tail_end (Some x) IsEnd) (λ z stop. subst Ends (sym stop) ends_nothing)

fill_some : Fills some_expr IsEnd one []
unfolding some_expr
fill_some = fill_tailed expr (λ x. pure (Some x)) Ends IsEnd weak_expr (λ x. tail_end (Some x) IsEnd) (λ z stop. subst Ends (sym stop) ends_nothing) one [] fill_expr

tail_condition : Tail condition IsEnd
unfolding condition some_expr
tail_condition =
    let p = some_expr in
    let s = sign.Key key.Where in
    subst (λ r. Tail r IsEnd) (is_eaten s p (pure None))
    (subst (λ r. Tail r IsEnd) (is_chosen s (λ i. p (next i)) (pure None))
    (tail_first (chosen s (λ i. p (next i)) (pure None)) IsEnd None refl
    (λ c. kind_tail_cond (is_at s c) (λ i. p (next i)) (pure None) IsEnd None c (inr (p, rest_of p IsEnd one [] weak_some fill_some, λ j. refl)) (inl (λ j. refl)))
    (λ z stop. subst (λ k. Gave (chosen s (λ i. p (next i)) (pure None) (first k) k) None k) (sym stop) refl)
    (chosen_local s (λ i. p (next i)) (pure None) (next_local p weak_some.local) (is_pure_local None))))

-- ---- name [ WHERE expr ], behind FROM

module _ (f : List ℕ → Option Expr → Statement) where
  named : Parser Statement
  named = name >>= (λ t. condition >>= (λ c. pure (f t c)))

  weak_named : Weak named IsEnd
  unfolding named
  weak_named = tailed name (λ t. condition >>= (λ c. pure (f t c))) Anything IsEnd (weak_name Anything) (λ t. tail_mapped (f t) condition IsEnd tail_condition) (λ z stop. tt)

  fill_named : Fills named IsEnd some_name []
  unfolding named
  fill_named = fill_tailed name (λ t. condition >>= (λ c. pure (f t c))) Anything IsEnd (weak_name Anything) (λ t. tail_mapped (f t) condition IsEnd tail_condition) (λ z stop. tt) some_name [] (fill_name Anything)

  weak_from : Weak (expect (sign.Key key.From) >> (name >>= (λ t. condition >>= (λ c. pure (f t c))))) IsEnd
  unfolding named
  weak_from = both (expect (sign.Key key.From)) (λ _. named) Anything IsEnd (weak_expect (sign.Key key.From) Anything) (λ _. weak_named) some_name [] (λ _. fill_named) (λ z. tt)

  fill_from : Fills (expect (sign.Key key.From) >> (name >>= (λ t. condition >>= (λ c. pure (f t c))))) IsEnd (word.Key key.From) (some_name ∷ [])
  unfolding named same_key
  fill_from = fill_both (expect (sign.Key key.From)) (λ _. named) Anything IsEnd (weak_expect (sign.Key key.From) Anything) (λ _. weak_named) some_name [] (λ _. fill_named) (λ z. tt) (word.Key key.From) [] (fill_expect (sign.Key key.From) Anything (word.Key key.From) refl)

-- ---- the five that go on behind their keyword

weak_delete : Weak delete IsEnd
unfolding delete
weak_delete = weak_from (λ t c. st.Delete t c)

fill_delete : Fills delete IsEnd (word.Key key.From) (some_name ∷ [])
unfolding delete
fill_delete = fill_from (λ t c. st.Delete t c)

abbrev ShownStop : Input → Type 0
ShownStop z = Anything z × NoComma z

names : Parser (Option (List (List ℕ)))
names = Some <$> listed name

weak_names : Weak names ShownStop
unfolding names
weak_names = mapped Some (listed name) ShownStop (weak_listed name Anything (weak_name Anything) some_name [] (fill_name Anything))

weak_shown : Weak select_list ShownStop
unfolding select_list names
weak_shown =
    let s = sign.Mark mark.star mark.none in
    subst (λ r. Weak r ShownStop) (is_eaten s (pure None) names)
    (weak_if s (λ i. pure None (next i)) names ShownStop (next_local (pure None) (is_pure_local None)) weak_names.local (weak_nothing names ShownStop weak_names)
    (λ c at. inr (inl (pure None, rest_pure None ShownStop, λ j. refl))) (λ c at. inr (inr (names, weak_names, λ j. refl))))

fill_shown : Fills select_list ShownStop (word.Mark mark.star mark.none) []
unfolding select_list after sees
fill_shown = (None, λ z stop. refl)

from_stops : (z : Input) → ShownStop (word.Key key.From ∷ z)
unfolding sees
from_stops z = (tt, refl)

weak_select : Weak select IsEnd
unfolding select
weak_select =
    both select_list (λ columns. expect (sign.Key key.From) >> (name >>= (λ t. condition >>= (λ c. pure (st.Select t columns c))))) ShownStop IsEnd weak_shown (λ columns. weak_from (λ t c. st.Select t columns c))
    (word.Key key.From) (some_name ∷ []) (λ columns. fill_from (λ t c. st.Select t columns c)) from_stops

fill_select : Fills select IsEnd (word.Mark mark.star mark.none) (word.Key key.From ∷ some_name ∷ [])
unfolding select
fill_select =
    fill_both select_list (λ columns. expect (sign.Key key.From) >> (name >>= (λ t. condition >>= (λ c. pure (st.Select t columns c))))) ShownStop IsEnd weak_shown (λ columns. weak_from (λ t c. st.Select t columns c))
    (word.Key key.From) (some_name ∷ []) (λ columns. fill_from (λ t c. st.Select t columns c)) from_stops (word.Mark mark.star mark.none) [] fill_shown

module _ (column : List ℕ) where
  set_to : Expr → SetItem
  set_to value = record { column = column; value = value }

  weak_value : Weak (expect (sign.Mark mark.equals mark.none) >> (set_to <$> expr)) Ends
  weak_value = both (expect (sign.Mark mark.equals mark.none)) (λ _. set_to <$> expr) Anything Ends (weak_expect (sign.Mark mark.equals mark.none) Anything) (λ _. mapped set_to expr Ends weak_expr) one [] (λ _. fill_mapped set_to expr Ends weak_expr one [] fill_expr) (λ z. tt)

  fill_value : Fills (expect (sign.Mark mark.equals mark.none) >> (set_to <$> expr)) Ends (word.Mark mark.equals mark.none) (one ∷ [])
  fill_value = fill_both (expect (sign.Mark mark.equals mark.none)) (λ _. set_to <$> expr) Anything Ends (weak_expect (sign.Mark mark.equals mark.none) Anything) (λ _. mapped set_to expr Ends weak_expr) one [] (λ _. fill_mapped set_to expr Ends weak_expr one [] fill_expr) (λ z. tt)
      (word.Mark mark.equals mark.none) [] (fill_expect (sign.Mark mark.equals mark.none) Anything (word.Mark mark.equals mark.none) refl)

weak_set : Weak set_item Ends
unfolding set_item set_to
weak_set = both name (λ column. expect (sign.Mark mark.equals mark.none) >> (set_to column <$> expr)) Anything Ends (weak_name Anything) weak_value (word.Mark mark.equals mark.none) (one ∷ []) fill_value (λ z. tt)

fill_set : Fills set_item Ends some_name (word.Mark mark.equals mark.none ∷ one ∷ [])
unfolding set_item set_to
fill_set = fill_both name (λ column. expect (sign.Mark mark.equals mark.none) >> (set_to column <$> expr)) Anything Ends (weak_name Anything) weak_value (word.Mark mark.equals mark.none) (one ∷ []) fill_value (λ z. tt) some_name [] (fill_name Anything)

abbrev SetStop : Input → Type 0
SetStop z = Ends z × NoComma z

end_stops : (z : Input) → IsEnd z → SetStop z
unfolding sees
end_stops z stop = subst SetStop (sym stop) (ends_nothing, refl)

module _ (t : List ℕ) where
  sets : Parser Statement
  sets = listed set_item >>= (λ sets. condition >>= (λ c. pure (st.Update t sets c)))

  weak_sets : Weak sets IsEnd
  unfolding sets
  weak_sets =
      tailed (listed set_item) (λ sets. condition >>= (λ c. pure (st.Update t sets c))) SetStop IsEnd (weak_listed set_item Ends weak_set some_name (word.Mark mark.equals mark.none ∷ one ∷ []) fill_set)
      (λ sets. tail_mapped (st.Update t sets) condition IsEnd tail_condition) end_stops

  fill_sets : Fills sets IsEnd some_name (word.Mark mark.equals mark.none ∷ one ∷ [])
  unfolding sets
  fill_sets =
      fill_tailed (listed set_item) (λ sets. condition >>= (λ c. pure (st.Update t sets c))) SetStop IsEnd (weak_listed set_item Ends weak_set some_name (word.Mark mark.equals mark.none ∷ one ∷ []) fill_set)
      (λ sets. tail_mapped (st.Update t sets) condition IsEnd tail_condition) end_stops some_name (word.Mark mark.equals mark.none ∷ one ∷ []) (fill_listed set_item Ends weak_set some_name (word.Mark mark.equals mark.none ∷ one ∷ []) fill_set)

  weak_sets_behind : Weak (expect (sign.Key key.Set) >> sets) IsEnd
  weak_sets_behind = both (expect (sign.Key key.Set)) (λ _. sets) Anything IsEnd (weak_expect (sign.Key key.Set) Anything) (λ _. weak_sets) some_name (word.Mark mark.equals mark.none ∷ one ∷ []) (λ _. fill_sets) (λ z. tt)

  fill_sets_behind : Fills (expect (sign.Key key.Set) >> sets) IsEnd (word.Key key.Set) (some_name ∷ word.Mark mark.equals mark.none ∷ one ∷ [])
  unfolding same_key
  fill_sets_behind = fill_both (expect (sign.Key key.Set)) (λ _. sets) Anything IsEnd (weak_expect (sign.Key key.Set) Anything) (λ _. weak_sets) some_name (word.Mark mark.equals mark.none ∷ one ∷ []) (λ _. fill_sets) (λ z. tt)
      (word.Key key.Set) [] (fill_expect (sign.Key key.Set) Anything (word.Key key.Set) refl)

weak_update : Weak update IsEnd
unfolding update sets
weak_update = both name (λ t. expect (sign.Key key.Set) >> sets t) Anything IsEnd (weak_name Anything) weak_sets_behind (word.Key key.Set) (some_name ∷ word.Mark mark.equals mark.none ∷ one ∷ []) fill_sets_behind (λ z. tt)

fill_update : Fills update IsEnd some_name (word.Key key.Set ∷ some_name ∷ word.Mark mark.equals mark.none ∷ one ∷ [])
unfolding update sets
fill_update = fill_both name (λ t. expect (sign.Key key.Set) >> sets t) Anything IsEnd (weak_name Anything) weak_sets_behind (word.Key key.Set) (some_name ∷ word.Mark mark.equals mark.none ∷ one ∷ []) fill_sets_behind (λ z. tt) some_name [] (fill_name Anything)

-- INSERT, from its end to its start
abbrev ListStop : Input → Type 0
ListStop z = Anything z × NoComma z

closed_stops : (z : Input) → ListStop (word.Mark mark.close_paren mark.none ∷ z)
unfolding sees
closed_stops z = (tt, refl)

module _ (t : List ℕ) where
  insert_end : List Value → Parser Statement
  insert_end vs = expect (sign.Mark mark.close_paren mark.none) >> pure (st.Insert t vs)

  insert_list : Parser Statement
  insert_list = listed literal >>= insert_end

  insert_open : Parser Statement
  insert_open = expect (sign.Mark mark.open_paren mark.none) >> insert_list

  insert_values : Parser Statement
  insert_values = expect (sign.Key key.Values) >> insert_open

  weak_end : (vs : List Value) → Weak (insert_end vs) IsEnd
  unfolding insert_end
  weak_end vs = tailed (expect (sign.Mark mark.close_paren mark.none)) (λ _. pure (st.Insert t vs)) Anything IsEnd (weak_expect (sign.Mark mark.close_paren mark.none) Anything) (λ _. tail_end (st.Insert t vs) IsEnd) (λ z stop. tt)

  fill_end : (vs : List Value) → Fills (insert_end vs) IsEnd (word.Mark mark.close_paren mark.none) []
  unfolding insert_end
  fill_end vs = fill_tailed (expect (sign.Mark mark.close_paren mark.none)) (λ _. pure (st.Insert t vs)) Anything IsEnd (weak_expect (sign.Mark mark.close_paren mark.none) Anything) (λ _. tail_end (st.Insert t vs) IsEnd) (λ z stop. tt) (word.Mark mark.close_paren mark.none) [] (fill_expect (sign.Mark mark.close_paren mark.none) Anything (word.Mark mark.close_paren mark.none) refl)

  weak_list : Weak insert_list IsEnd
  unfolding insert_list
  weak_list = both (listed literal) insert_end ListStop IsEnd (weak_listed literal Anything (weak_literal Anything) one [] (fill_literal Anything)) weak_end (word.Mark mark.close_paren mark.none) [] fill_end closed_stops

  fill_list : Fills insert_list IsEnd one (word.Mark mark.close_paren mark.none ∷ [])
  unfolding insert_list
  fill_list = fill_both (listed literal) insert_end ListStop IsEnd (weak_listed literal Anything (weak_literal Anything) one [] (fill_literal Anything)) weak_end (word.Mark mark.close_paren mark.none) [] fill_end closed_stops one [] (fill_listed literal Anything (weak_literal Anything) one [] (fill_literal Anything))

  weak_open : Weak insert_open IsEnd
  unfolding insert_open
  weak_open = both (expect (sign.Mark mark.open_paren mark.none)) (λ _. insert_list) Anything IsEnd (weak_expect (sign.Mark mark.open_paren mark.none) Anything) (λ _. weak_list) one (word.Mark mark.close_paren mark.none ∷ []) (λ _. fill_list) (λ z. tt)

  fill_open : Fills insert_open IsEnd (word.Mark mark.open_paren mark.none) (one ∷ word.Mark mark.close_paren mark.none ∷ [])
  unfolding insert_open
  fill_open = fill_both (expect (sign.Mark mark.open_paren mark.none)) (λ _. insert_list) Anything IsEnd (weak_expect (sign.Mark mark.open_paren mark.none) Anything) (λ _. weak_list) one (word.Mark mark.close_paren mark.none ∷ []) (λ _. fill_list) (λ z. tt) (word.Mark mark.open_paren mark.none) [] (fill_expect (sign.Mark mark.open_paren mark.none) Anything (word.Mark mark.open_paren mark.none) refl)

  weak_values : Weak insert_values IsEnd
  unfolding insert_values
  weak_values = both (expect (sign.Key key.Values)) (λ _. insert_open) Anything IsEnd (weak_expect (sign.Key key.Values) Anything) (λ _. weak_open) (word.Mark mark.open_paren mark.none) (one ∷ word.Mark mark.close_paren mark.none ∷ []) (λ _. fill_open) (λ z. tt)

  fill_values : Fills insert_values IsEnd (word.Key key.Values) (word.Mark mark.open_paren mark.none ∷ one ∷ word.Mark mark.close_paren mark.none ∷ [])
  unfolding insert_values same_key
  fill_values = fill_both (expect (sign.Key key.Values)) (λ _. insert_open) Anything IsEnd (weak_expect (sign.Key key.Values) Anything) (λ _. weak_open) (word.Mark mark.open_paren mark.none) (one ∷ word.Mark mark.close_paren mark.none ∷ []) (λ _. fill_open) (λ z. tt)
      (word.Key key.Values) [] (fill_expect (sign.Key key.Values) Anything (word.Key key.Values) refl)

insert_into : Parser Statement
insert_into = name >>= insert_values

abbrev into_fill : List Word
into_fill = word.Key key.Values ∷ word.Mark mark.open_paren mark.none ∷ one ∷ word.Mark mark.close_paren mark.none ∷ []

weak_into : Weak insert_into IsEnd
unfolding insert_into
weak_into = both name insert_values Anything IsEnd (weak_name Anything) weak_values (word.Key key.Values) (word.Mark mark.open_paren mark.none ∷ one ∷ word.Mark mark.close_paren mark.none ∷ []) fill_values (λ z. tt)

fill_into : Fills insert_into IsEnd some_name into_fill
unfolding insert_into
fill_into = fill_both name insert_values Anything IsEnd (weak_name Anything) weak_values (word.Key key.Values) (word.Mark mark.open_paren mark.none ∷ one ∷ word.Mark mark.close_paren mark.none ∷ []) fill_values (λ z. tt) some_name [] (fill_name Anything)

weak_insert : Weak insert IsEnd
unfolding insert insert_into insert_values insert_open insert_list insert_end
weak_insert = both (expect (sign.Key key.Into)) (λ _. insert_into) Anything IsEnd (weak_expect (sign.Key key.Into) Anything) (λ _. weak_into) some_name into_fill (λ _. fill_into) (λ z. tt)

fill_insert : Fills insert IsEnd (word.Key key.Into) (some_name ∷ into_fill)
unfolding insert insert_into insert_values insert_open insert_list insert_end same_key
fill_insert = fill_both (expect (sign.Key key.Into)) (λ _. insert_into) Anything IsEnd (weak_expect (sign.Key key.Into) Anything) (λ _. weak_into) some_name into_fill (λ _. fill_into) (λ z. tt)
    (word.Key key.Into) [] (fill_expect (sign.Key key.Into) Anything (word.Key key.Into) refl)

-- ---- BEGIN

abbrev begun_by : Option Word → Parser Statement
begun_by o = λ i.
    cond (front_is (sign.Key key.Memory) o) (pure (st.Begin begun.Mem) (next i)) (cond (front_is (sign.Key key.Storage) o) (pure (st.Begin begun.Store) (next i)) (pure (st.Begin begun.Cross) i))

is_begun : ◌≡◌ {A = Parser Statement} (λ i. begun_by (first i) i) begin
unfolding begin after
is_begun = ext (λ i. begun_by (first i) i) begin (λ i. rw (front_sees (sign.Key key.Memory) i, front_sees (sign.Key key.Storage) i) (by (sees (sign.Key key.Memory) i) i))
  where
    on : (s : Bool) (i : Input) → cond s (pure (st.Begin begun.Store) (next i)) (pure (st.Begin begun.Cross) i) ≡ cond s (pure (st.Begin begun.Store)) (pure (st.Begin begun.Cross)) (cond s (next i) i)
    on true i = refl
    on false i = refl

    by : (m : Bool) (i : Input) → cond m (pure (st.Begin begun.Mem) (next i)) (cond (sees (sign.Key key.Storage) i) (pure (st.Begin begun.Store) (next i)) (pure (st.Begin begun.Cross) i))
        ≡ cond m (pure (st.Begin begun.Mem)) (λ j. cond (sees (sign.Key key.Storage) j) (pure (st.Begin begun.Store)) (pure (st.Begin begun.Cross)) (cond (sees (sign.Key key.Storage) j) (next j) j)) (cond m (next i) i)
    by true i = refl
    by false i = on (sees (sign.Key key.Storage) i) i

tail_begin : Tail begin IsEnd
tail_begin =
    subst (λ r. Tail r IsEnd) is_begun
    (tail_first begun_by IsEnd (st.Begin begun.Cross) refl
    (λ c. kind_tail_cond (is_at (sign.Key key.Memory) c) (λ i. pure (st.Begin begun.Mem) (next i)) (λ i. cond (is_at (sign.Key key.Storage) c) (pure (st.Begin begun.Store) (next i)) (pure (st.Begin begun.Cross) i)) IsEnd (st.Begin begun.Cross) c
    (inr (pure (st.Begin begun.Mem), rest_pure (st.Begin begun.Mem) IsEnd, λ j. refl))
    (kind_tail_cond (is_at (sign.Key key.Storage) c) (λ i. pure (st.Begin begun.Store) (next i)) (pure (st.Begin begun.Cross)) IsEnd (st.Begin begun.Cross) c (inr (pure (st.Begin begun.Store), rest_pure (st.Begin begun.Store) IsEnd, λ j. refl)) (inl (λ j. refl))))
    (λ z stop. subst (λ k. Gave (begun_by (first k) k) (st.Begin begun.Cross) k) (sym stop) refl)
    (subst IsLocal (sym is_begun) (λ w vs zs. local_begin w vs zs)))

-- ---- any statement

said_kind : (c : Word) → Kind (λ o. said_by (first_key o)) IsEnd c
said_kind (word.Key key.Begin) = inr (inl (begin, rest_tail begin IsEnd tail_begin, λ j. refl))
said_kind (word.Key key.Commit) = inr (inl (pure st.Commit, rest_pure st.Commit IsEnd, λ j. refl))
said_kind (word.Key key.Rollback) = inr (inl (pure st.Rollback, rest_pure st.Rollback IsEnd, λ j. refl))
said_kind (word.Key key.Insert) = inr (inl (insert, rest_of insert IsEnd (word.Key key.Into) (some_name ∷ into_fill) weak_insert fill_insert, λ j. refl))
said_kind (word.Key key.Select) = inr (inl (select, rest_of select IsEnd (word.Mark mark.star mark.none) (word.Key key.From ∷ some_name ∷ []) weak_select fill_select, λ j. refl))
said_kind (word.Key key.Update) = inr (inl (update, rest_of update IsEnd some_name (word.Key key.Set ∷ some_name ∷ word.Mark mark.equals mark.none ∷ one ∷ []) weak_update fill_update, λ j. refl))
said_kind (word.Key key.Delete) = inr (inl (delete, rest_of delete IsEnd (word.Key key.From) (some_name ∷ []) weak_delete fill_delete, λ j. refl))
said_kind _ = inl (λ j. refl)

weak_said : Weak said IsEnd
unfolding said
weak_said = weak_first (λ o. said_by (first_key o)) IsEnd refl said_kind (λ w vs zs. local_said w vs zs)

abbrev pub Begins : List Word → ℕ → Type 0
Begins ws n = (us : List Word) × (vs : List Word) × (zs : List Word) × (s : Statement) × (ws ≡ us ++ vs) × (n ≡ length vs) × Says (us ++ zs) s

-- the words before one that is refused begin a statement
pub reached : (ws : List Word) (n : ℕ) → whole ws ≡ Err n → Begins ws n
unfolding whole
reached ws n is = by (said ws) refl is
  where
    in_said : (n ≡ length ws) ⊎ Completion said IsEnd ws n → Begins ws n
    in_said (inl at_once) = ([], ws, word.Key key.Commit ∷ [], st.Commit, refl, at_once, refl)
    in_said (inr (u, us, vs, zs, s, words, len, reads)) =
        let read : Gave (said (u ∷ us ++ zs)) s [] = ap (λ k. said (u ∷ us ++ k)) (sym (append-nil zs)) ∙ reads [] refl in
        (u ∷ us, vs, zs, s, words, len, said_sound (u ∷ us ++ zs) s read)

    left_over : (s : Statement) (r : Input) → Gave (said ws) s r → (t : Bool) → cond t (Ok (s, r)) (refuse r) ≡ Err n → Begins ws n
    left_over s r read true failed = absurd cc
    left_over s r read false failed =
        let t = weak_said.takes ws r s read in
        let here : Gave (said (t.0 ∷ t.1 ++ r)) s r = subst (λ k. Gave (said k) s r) t.2 read in
        let alone = weak_said.stable (t.0 ∷ t.1) r s here [] refl in
        (t.0 ∷ t.1, r, [], s, t.2, ap (err_of 0) (sym failed), said_sound (t.0 ∷ t.1 ++ []) s alone)

    by : (o : Outcome Statement) → said ws ≡ o → and_then o (λ found j. cond (length j == 0) (Ok (found, j)) (refuse j)) ≡ Err n → Begins ws n
    by (Err m) at failed = in_said (weak_said.completes ws n (at ∙ ap Err (ap (err_of m) failed)))
    by (Ok q) at failed = left_over q.0 q.1 at (length q.1 == 0) failed
