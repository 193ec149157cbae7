-- Where the words of a TABLE line are not read, its tokens are at fault there.
use Rattle.std.proofs.Common.{◌≡◌, ◌==◌, ℕ, zero, suc, ◌+◌, ◌≤◌, Bool, true, false, cond, List, [], ◌∷◌, ◌++◌, length, Option, Some, None, refl, sym, ap, subst, ◌∙◌, arith}
use Rattle.std.specs.Prelude.{Ok, Err}
use Rattle.std.proofs.lemmas.Bool.Decides.{nat_tests}
use Rattle.sk_lex.specs.declared.token.Token.{Token}
use Rattle.sk_lex.specs.declared.token.Word.{Word}
use Rattle.sk_lex.specs.declared.token.Word.TheVariants as word
use Rattle.sk_rows.specs.declared.table.Column.{Column}
use Rattle.sk_rows.specs.declared.table.Table.{Table}
use Rattle.sk_rows.specs.declared.value.Sort.{Sort}
use Rattle.sk_rows.specs.declared.value.Sort.TheVariants as sorts
use Rattle.sk_lex.specs.Marks as mark
use Rattle.sk_parse.specs.declared.cursor.Sign.TheVariants as sign
use Rattle.sk_parse.specs.Input.{Input, Outcome, ◌>>=◌, after, and_then, next, pure, refuse, sees, take_some}
use Rattle.sk_parse.specs.Places.{words}
use Rattle.sk_parse.specs.Statements.{place_of}
use Rattle.sk_parse.proofs.Sound.{mark_at}
use Rattle.sk_script.specs.declared.script.TableLine.{TableLine}
use Rattle.sk_script.specs.Faults.{ColumnFault, IsColumnAt, TableFault}
use Rattle.sk_script.specs.Header.{column, column_name, columns, columns_from, ended, engine, engine_of, is_bool_key, made, named, new_column, new_table, sort, sort_of, table, table_name}

-- ---- one column

data View (end : ℕ) (cs : List Column) (ts : List Token) : Outcome Column → Type 0 where
  fails : (us vs : List Token) → ts ≡ us ++ vs → ColumnFault end cs ts (place_of end vs) → View end cs ts (Err (length (words vs)))
  reads : (t u : Token) (rest : List Token) (c : Column) → ts ≡ t ∷ u ∷ rest → IsColumnAt cs t u c → View end cs ts (Ok (c, words rest))

bool_first : (cs : List Column) (s : Sort) → is_bool_key cs s ≡ true → (cs ≡ []) × (s ≡ sorts.Bool)
bool_first [] sorts.Bool is = (refl, refl)
bool_first [] sorts.Int is = absurd cc
bool_first [] sorts.Text is = absurd cc
bool_first (c ∷ cs) sorts.Bool is = absurd cc
bool_first (c ∷ cs) sorts.Int is = absurd cc
bool_first (c ∷ cs) sorts.Text is = absurd cc

key_fault : (end : ℕ) (cs : List Column) (t u : Token) (ts : List Token) (name : List ℕ) (s : Sort) → cs ≡ [] → s ≡ sorts.Bool → new_column cs t.word ≡ Some name → sort_of u.word ≡ Some s
    → ColumnFault end cs (t ∷ u ∷ ts) (t.from + 1)
key_fault end cs t u ts name s none bool found is =
    subst (λ l. ColumnFault end l (t ∷ u ∷ ts) (t.from + 1)) (sym none)
    (ColumnFault.bool_key t u ts name (ap (λ l. new_column l t.word) (sym none) ∙ found) (is ∙ ap Some bool))

sort_view : (end : ℕ) (cs : List Column) (t : Token) (ts : List Token) (name : List ℕ) → new_column cs t.word ≡ Some name
    → View end cs (t ∷ ts) (and_then (sort (words ts)) (λ s. cond (is_bool_key cs s) (λ rest. refuse (words (t ∷ ts))) (pure (named name s))))
unfolding sort
sort_view end cs t [] name found = View.fails (t ∷ []) [] refl (ColumnFault.sort cs t [] name found tt)
sort_view end cs t (u ∷ us) name found = by (sort_of u.word) refl
  where
    by_key : (s : Sort) → sort_of u.word ≡ Some s → (b : Bool) → is_bool_key cs s ≡ b
        → View end cs (t ∷ u ∷ us) (cond b (λ (rest : Input). refuse (words (t ∷ u ∷ us))) (pure (named name s)) (words us))
    by_key s is true at = let first = bool_first cs s at in View.fails [] (t ∷ u ∷ us) refl (key_fault end cs t u us name s first.0 first.1 found is)
    by_key s is false at = View.reads t u us (named name s) refl (found, is, at)

    by : (o : Option Sort) → sort_of u.word ≡ o
        → View end cs (t ∷ u ∷ us) (and_then (take_some o (words (u ∷ us))) (λ s. cond (is_bool_key cs s) (λ rest. refuse (words (t ∷ u ∷ us))) (pure (named name s))))
    by None is = View.fails (t ∷ []) (u ∷ us) refl (ColumnFault.sort cs t (u ∷ us) name found is)
    by (Some s) is = by_key s is (is_bool_key cs s) refl

column_view : (end : ℕ) (cs : List Column) (ts : List Token) → View end cs ts (column cs (words ts))
unfolding column column_name
column_view end cs [] = View.fails [] [] refl (ColumnFault.name cs [] tt)
column_view end cs (t ∷ ts) = by (new_column cs t.word) refl
  where
    by : (o : Option (List ℕ)) → new_column cs t.word ≡ o
        → View end cs (t ∷ ts) (and_then (take_some o (words (t ∷ ts))) (λ name. sort >>= (λ s. cond (is_bool_key cs s) (λ rest. refuse (words (t ∷ ts))) (pure (named name s)))))
    by None is = View.fails [] (t ∷ ts) refl (ColumnFault.name cs (t ∷ ts) is)
    by (Some name) is = sort_view end cs t ts name is

-- ---- behind a column

data Behind (end : ℕ) (cs : List Column) : List Token → ℕ → Type 0 where
  ends : (v : Token) (ts : List Token) → ¬ (v.word ≡ word.Mark mark.comma mark.none) → Behind end cs (v ∷ ts) (v.from + 1)
  more : (v : Token) (ts : List Token) (place : ℕ) → v.word ≡ word.Mark mark.comma mark.none → ColumnFault end cs ts place → Behind end cs (v ∷ ts) place

behind_fault : (end : ℕ) (cs : List Column) (t u : Token) (c : Column) → IsColumnAt cs t u c → (ts : List Token) (place : ℕ) → Behind end (cs ++ c ∷ []) ts place → ColumnFault end cs (t ∷ u ∷ ts) place
behind_fault end cs t u c is _ _ (Behind.ends v ts other) = ColumnFault.behind cs t u v ts c is other
behind_fault end cs t u c is _ _ (Behind.more v ts place comma f) = ColumnFault.later cs t u v ts c place is comma f

-- the tokens are at fault where so many words are left
abbrev At : (List Token → ℕ → Type 0) → ℕ → List Token → ℕ → Type 0
At F end ts k = (us : List Token) × (vs : List Token) × (ts ≡ us ++ vs) × (k ≡ length (words vs)) × F ts (place_of end vs)

abbrev err_or : {A : Type 0} → ℕ → Outcome A → ℕ
err_or d (Err k) = k
err_or d (Ok p) = d

ended_err : (x : Table) (w : Word) (i : Input) (k : ℕ) → ended x (w ∷ i) ≡ Err k → k ≡ length (w ∷ i)
ended_err x w i k is = by (suc (length i) == 0) refl is
  where
    by : (b : Bool) → (suc (length i) == 0) ≡ b → cond b (Ok (x, w ∷ i)) (refuse (w ∷ i)) ≡ Err k → k ≡ length (w ∷ i)
    by true at e = let bad : suc (length i) ≡ 0 = grind (arith, nat_tests) in absurd (omega arith)
    by false at e = sym cc

no_comma : (v : Token) (ts : List Token) → sees (sign.Mark mark.comma mark.none) (words (v ∷ ts)) ≡ false → ¬ (v.word ≡ word.Mark mark.comma mark.none)
unfolding sees
no_comma v ts at is =
    let bad : true ≡ false = ap (λ w. sees (sign.Mark mark.comma mark.none) (w ∷ words ts)) (sym is) ∙ at in
    absurd cc

pub comma : (v : Token) (ts : List Token) → sees (sign.Mark mark.comma mark.none) (words (v ∷ ts)) ≡ true → v.word ≡ word.Mark mark.comma mark.none
comma v ts at = let e = mark_at mark.comma mark.none (words (v ∷ ts)) at in cc

pub length_words : (ts : List Token) → length (words ts) ≡ length ts
length_words [] = refl
length_words (t ∷ ts) = ap suc (length_words ts)

module _ (end : ℕ) (name : List ℕ) (store : Bool) where
  abbrev finish : List Column → Input → Outcome Table
  finish cs = ended (made name store cs)

  none_left : (n : ℕ) (found : List Column) (k : ℕ) → ¬ (and_then (columns_from n found []) finish ≡ Err k)
  unfolding columns_from after sees
  none_left zero found k is = absurd cc
  none_left (suc n) found k is = absurd cc

  loop : (n : ℕ) (found : List Column) (ts : List Token) → length ts ≤ n → (k : ℕ) → and_then (columns_from n found (words ts)) finish ≡ Err k → At (Behind end found) end ts k
  unfolding columns_from after
  loop n found [] le k is = absurd (none_left n found k is)
  loop zero found (v ∷ ts) le k is = absurd (omega arith)
  loop (suc n) found (v ∷ ts) le k is = by (sees (sign.Mark mark.comma mark.none) (words (v ∷ ts))) refl is (loop n)
    where
      on : v.word ≡ word.Mark mark.comma mark.none → (o : Outcome Column) → View end found ts o → and_then (and_then o (λ c. columns_from n (found ++ c ∷ []))) finish ≡ Err k
          → ((longer : List Column) (rest : List Token) → length rest ≤ n → (k : ℕ) → and_then (columns_from n longer (words rest)) finish ≡ Err k → At (Behind end longer) end rest k)
          → At (Behind end found) end (v ∷ ts) k
      on at _ (View.fails us vs split f) e ih = (v ∷ us, vs, ap (λ l. v ∷ l) split, sym (ap (err_or 0) e), Behind.more v ts (place_of end vs) at f)
      on at _ (View.reads t u rest c split is_column) e ih =
          let fewer : length rest ≤ n = let l = ap length split in omega arith in
          let r = ih (found ++ c ∷ []) rest fewer k e in (
            v ∷ t ∷ u ∷ r.0,
            r.1,
            ap (λ l. v ∷ l) (split ∙ ap (λ l. t ∷ u ∷ l) r.2),
            r.3,
            Behind.more v ts (place_of end r.1) at (subst (λ l. ColumnFault end found l (place_of end r.1)) (sym split) (behind_fault end found t u c is_column rest (place_of end r.1) r.4)),
          )

      by : (b : Bool) → sees (sign.Mark mark.comma mark.none) (words (v ∷ ts)) ≡ b
          → and_then (cond b (column found >>= (λ c. columns_from n (found ++ c ∷ []))) (pure found) (cond b (next (words (v ∷ ts))) (words (v ∷ ts)))) finish ≡ Err k
          → ((longer : List Column) (rest : List Token) → length rest ≤ n → (k : ℕ) → and_then (columns_from n longer (words rest)) finish ≡ Err k → At (Behind end longer) end rest k)
          → At (Behind end found) end (v ∷ ts) k
      by false at e ih = ([], v ∷ ts, refl, ended_err (made name store found) v.word (words ts) k e, Behind.ends v ts (no_comma v ts at))
      by true at e ih = on (comma v ts at) (column found (words ts)) (column_view end found ts) e ih

  columns_fault : (ts : List Token) (k : ℕ) → and_then (columns (words ts)) finish ≡ Err k → At (ColumnFault end []) end ts k
  unfolding columns
  columns_fault ts k is = by (column [] (words ts)) (column_view end [] ts) is
    where
      by : (o : Outcome Column) → View end [] ts o → and_then (and_then o (λ c j. columns_from (length j) (c ∷ []) j)) finish ≡ Err k → At (ColumnFault end []) end ts k
      by _ (View.fails us vs split f) e = (us, vs, split, sym (ap (err_or 0) e), f)
      by _ (View.reads t u rest c split is_column) e =
          let enough : length rest ≤ length (words rest) = let same = length_words rest in omega arith in
          let r = loop (length (words rest)) (c ∷ []) rest enough k e in
          (t ∷ u ∷ r.0, r.1, split ∙ ap (λ l. t ∷ u ∷ l) r.2, r.3, subst (λ l. ColumnFault end [] l (place_of end r.1)) (sym split) (behind_fault end [] t u c is_column rest (place_of end r.1) r.4))

-- ---- the whole

engine_fault : (tables : List TableLine) (end : ℕ) (t : Token) (ts : List Token) (name : List ℕ) → new_table tables t.word ≡ Some name → (k : ℕ)
    → and_then (engine (words ts)) (λ store. columns >>= (λ cs. ended (made name store cs))) ≡ Err k → At (TableFault tables end) end (t ∷ ts) k
unfolding engine
engine_fault tables end t [] name found k is = (t ∷ [], [], refl, sym (ap (err_or 0) is), TableFault.engine t [] name found tt)
engine_fault tables end t (u ∷ us) name found k is = by (engine_of u.word) refl is
  where
    by : (o : Option Bool) → engine_of u.word ≡ o → and_then (take_some o (words (u ∷ us))) (λ store. columns >>= (λ cs. ended (made name store cs))) ≡ Err k → At (TableFault tables end) end (t ∷ u ∷ us) k
    by None at e = (t ∷ [], u ∷ us, refl, sym (ap (err_or 0) e), TableFault.engine t (u ∷ us) name found at)
    by (Some store) at e =
        let r = columns_fault end name store us k e in
        (t ∷ u ∷ r.0, r.1, ap (λ l. t ∷ u ∷ l) r.2, r.3, TableFault.columns t u us name store (place_of end r.1) found at r.4)

pub table_fault : (tables : List TableLine) (end : ℕ) (ts : List Token) (k : ℕ) → table tables (words ts) ≡ Err k → At (TableFault tables end) end ts k
unfolding table table_name
table_fault tables end [] k is = ([], [], refl, sym (ap (err_or 0) is), TableFault.name [] tt)
table_fault tables end (t ∷ ts) k is = by (new_table tables t.word) refl is
  where
    by : (o : Option (List ℕ)) → new_table tables t.word ≡ o
        → and_then (take_some o (words (t ∷ ts))) (λ name. engine >>= (λ store. columns >>= (λ cs. ended (made name store cs)))) ≡ Err k → At (TableFault tables end) end (t ∷ ts) k
    by None at e = ([], t ∷ ts, refl, sym (ap (err_or 0) e), TableFault.name (t ∷ ts) at)
    by (Some name) at e = engine_fault tables end t ts name at k e
