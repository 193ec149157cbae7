-- Where the rules call the tokens of a TABLE line at fault, its words are not read there.
use Rattle.std.proofs.Common.{◌≡◌, ◌==◌, ℕ, zero, suc, ◌≤◌, Bool, true, false, cond, List, [], ◌∷◌, ◌++◌, length, Some, refl, sym, ap, ◌∙◌, arith}
use Rattle.std.specs.Prelude.{Ok, Err}
use Rattle.std.proofs.lemmas.Bool.Decides.{nat_tests}
use Rattle.sk_lex.specs.declared.token.Token.{Token}
use Rattle.sk_lex.specs.declared.token.Word.{Word}
use Rattle.sk_lex.specs.declared.token.Word.TheVariants as word
use Rattle.sk_rows.specs.declared.table.Column.{Column}
use Rattle.sk_rows.specs.declared.table.Table.{Table}
use Rattle.sk_rows.specs.declared.value.Sort.{Sort}
use Rattle.sk_rows.specs.declared.value.Sort.TheVariants as sorts
use Rattle.sk_lex.specs.Marks as mark
use Rattle.sk_parse.specs.declared.cursor.Sign.TheVariants as sign
use Rattle.sk_parse.specs.Input.{Input, Outcome, ◌>>=◌, after, and_then, next, pure, refuse, sees, take_some}
use Rattle.sk_parse.specs.Places.{words}
use Rattle.sk_parse.specs.Statements.{place_of}
use Rattle.sk_script.specs.declared.script.TableLine.{TableLine}
use Rattle.sk_script.specs.Faults.{ColumnFault, IsColumnAt, Misses, TableFault}
use Rattle.sk_script.specs.Header.{column, column_name, columns, columns_from, ended, engine, is_bool_key, made, named, new_column, sort, sort_of, table, table_name}
use Rattle.sk_script.proofs.TableFaults.{comma, length_words}

-- ---- one column

abbrev on_sort : List Column → Input → List ℕ → Sort → Input → Outcome Column
on_sort cs i name s = cond (is_bool_key cs s) (λ rest. refuse i) (pure (named name s))

abbrev on_name : List Column → Input → List ℕ → Input → Outcome Column
on_name cs i name = sort >>= on_sort cs i name

name_fails : (cs : List Column) (ts : List Token) → Misses (new_column cs) ts → column cs (words ts) ≡ Err (length (words ts))
unfolding column column_name
name_fails cs [] none = refl
name_fails cs (t ∷ ts) none = ap (λ o. and_then (take_some o (words (t ∷ ts))) (on_name cs (words (t ∷ ts)))) none

sort_fails : (cs : List Column) (t : Token) (ts : List Token) (name : List ℕ) → new_column cs t.word ≡ Some name → Misses sort_of ts → column cs (words (t ∷ ts)) ≡ Err (length (words ts))
unfolding column column_name sort
sort_fails cs t [] name found none = ap (λ o. and_then (take_some o (words (t ∷ []))) (on_name cs (words (t ∷ [])))) found
sort_fails cs t (u ∷ ts) name found none =
    let i = words (t ∷ u ∷ ts) in
    ap (λ o. and_then (take_some o i) (on_name cs i)) found ∙ ap (λ o. and_then (take_some o (words (u ∷ ts))) (on_sort cs i name)) none

key_fails : (t u : Token) (ts : List Token) (name : List ℕ) → new_column [] t.word ≡ Some name → sort_of u.word ≡ Some sorts.Bool → column [] (words (t ∷ u ∷ ts)) ≡ Err (length (words (t ∷ u ∷ ts)))
unfolding column column_name sort
key_fails t u ts name found is =
    let i = words (t ∷ u ∷ ts) in
    ap (λ o. and_then (take_some o i) (on_name [] i)) found ∙ ap (λ o. and_then (take_some o (words (u ∷ ts))) (on_sort [] i name)) is

column_reads : (cs : List Column) (t u : Token) (c : Column) → IsColumnAt cs t u c → (ts : List Token) → column cs (words (t ∷ u ∷ ts)) ≡ Ok (c, words ts)
unfolding column column_name sort
column_reads cs t u c is ts =
    let i = words (t ∷ u ∷ ts) in
    ap (λ o. and_then (take_some o i) (on_name cs i)) is.0
    ∙ ap (λ o. and_then (take_some o (words (u ∷ ts))) (on_sort cs i c.name)) is.1
    ∙ ap (λ b. cond b (λ (rest : Input). refuse i) (pure (named c.name c.sort)) (words ts)) is.2

-- ---- a list of columns

ended_fails : (x : Table) (w : Word) (i : Input) → ended x (w ∷ i) ≡ Err (length (w ∷ i))
ended_fails x w i = by (suc (length i) == 0) refl
  where
    by : (b : Bool) → (suc (length i) == 0) ≡ b → cond b (Ok (x, w ∷ i)) (refuse (w ∷ i)) ≡ Err (length (w ∷ i))
    by true at = let bad : suc (length i) ≡ 0 = grind (arith, nat_tests) in absurd (omega arith)
    by false at = refl

no_comma : (v : Token) (ts : List Token) → ¬ (v.word ≡ word.Mark mark.comma mark.none) → sees (sign.Mark mark.comma mark.none) (words (v ∷ ts)) ≡ false
no_comma v ts other = by (sees (sign.Mark mark.comma mark.none) (words (v ∷ ts))) refl
  where
    by : (b : Bool) → sees (sign.Mark mark.comma mark.none) (words (v ∷ ts)) ≡ b → b ≡ false
    by true at = absurd (other (comma v ts at))
    by false at = refl

some_comma : (v : Token) (ts : List Token) → v.word ≡ word.Mark mark.comma mark.none → sees (sign.Mark mark.comma mark.none) (words (v ∷ ts)) ≡ true
unfolding sees
some_comma v ts at = ap (λ w. sees (sign.Mark mark.comma mark.none) (w ∷ words ts)) at

-- it fails where the tokens have this place
abbrev pub Left : {A : Type 0} → ℕ → List Token → ℕ → Outcome A → Type 0
Left end ts place o = (us : List Token) × (vs : List Token) × (ts ≡ us ++ vs) × (o ≡ Err (length (words vs))) × (place ≡ place_of end vs)

module _ (end : ℕ) (name : List ℕ) (store : Bool) where
  abbrev finish : List Column → Input → Outcome Table
  finish cs = ended (made name store cs)

  abbrev list_from : ℕ → List Column → List Token → Outcome Table
  list_from n cs ts = and_then (columns_from n cs (words ts)) finish

  abbrev more_from : ℕ → List Column → List Token → Outcome Table
  more_from n cs ts = and_then (and_then (column cs (words ts)) (λ c. columns_from n (cs ++ c ∷ []))) finish

  turn_ends : (n : ℕ) (cs : List Column) (v : Token) (ts : List Token) → ¬ (v.word ≡ word.Mark mark.comma mark.none) → list_from (suc n) cs (v ∷ ts) ≡ Err (length (words (v ∷ ts)))
  unfolding columns_from after
  turn_ends n cs v ts other =
      ap (λ b. and_then (cond b (column cs >>= (λ c. columns_from n (cs ++ c ∷ []))) (pure cs) (cond b (next (words (v ∷ ts))) (words (v ∷ ts)))) finish) (no_comma v ts other)
      ∙ ended_fails (made name store cs) v.word (words ts)

  turn_goes : (n : ℕ) (cs : List Column) (v : Token) (ts : List Token) → v.word ≡ word.Mark mark.comma mark.none → list_from (suc n) cs (v ∷ ts) ≡ more_from n cs ts
  unfolding columns_from after
  turn_goes n cs v ts at =
      ap (λ b. and_then (cond b (column cs >>= (λ c. columns_from n (cs ++ c ∷ []))) (pure cs) (cond b (next (words (v ∷ ts))) (words (v ∷ ts)))) finish) (some_comma v ts at)

  fails_first : (n : ℕ) (cs : List Column) (ts : List Token) (k : ℕ) → column cs (words ts) ≡ Err k → more_from n cs ts ≡ Err k
  fails_first n cs ts k is = ap (λ o. and_then (and_then o (λ c. columns_from n (cs ++ c ∷ []))) finish) is

  reads_first : (n : ℕ) (cs : List Column) (t u : Token) (c : Column) → IsColumnAt cs t u c → (ts : List Token) → more_from n cs (t ∷ u ∷ ts) ≡ list_from n (cs ++ c ∷ []) ts
  reads_first n cs t u c is ts = ap (λ o. and_then (and_then o (λ c. columns_from n (cs ++ c ∷ []))) finish) (column_reads cs t u c is ts)

  more_fails : (cs : List Column) (ts : List Token) (place : ℕ) → ColumnFault end cs ts place → (n : ℕ) → length ts ≤ n → Left end ts place (more_from n cs ts)
  more_fails _ _ _ (ColumnFault.name cs ts none) n le = ([], ts, refl, fails_first n cs ts (length (words ts)) (name_fails cs ts none), refl)
  more_fails _ _ _ (ColumnFault.sort cs t ts name found none) n le = (t ∷ [], ts, refl, fails_first n cs (t ∷ ts) (length (words ts)) (sort_fails cs t ts name found none), refl)
  more_fails _ _ _ (ColumnFault.bool_key t u ts name found is) n le = ([], t ∷ u ∷ ts, refl, fails_first n [] (t ∷ u ∷ ts) (length (words (t ∷ u ∷ ts))) (key_fails t u ts name found is), refl)
  more_fails _ _ _ (ColumnFault.behind cs t u v ts c is other) zero le = absurd (omega arith)
  more_fails _ _ _ (ColumnFault.behind cs t u v ts c is other) (suc n) le =
      (t ∷ u ∷ [], v ∷ ts, refl, reads_first (suc n) cs t u c is (v ∷ ts) ∙ turn_ends n (cs ++ c ∷ []) v ts other, refl)
  more_fails _ _ _ (ColumnFault.later cs t u v ts c place is at f) zero le = absurd (omega arith)
  more_fails _ _ _ (ColumnFault.later cs t u v ts c place is at f) (suc n) le =
      let r = more_fails (cs ++ c ∷ []) ts place f n (omega arith) in
      (t ∷ u ∷ v ∷ r.0, r.1, ap (λ l. t ∷ u ∷ v ∷ l) r.2, reads_first (suc n) cs t u c is (v ∷ ts) ∙ turn_goes n (cs ++ c ∷ []) v ts at ∙ r.3, r.4)

  abbrev all_from : List Token → Outcome Table
  all_from ts = and_then (and_then (column [] (words ts)) (λ c j. columns_from (length j) (c ∷ []) j)) finish

  fails_all : (ts : List Token) (k : ℕ) → column [] (words ts) ≡ Err k → all_from ts ≡ Err k
  fails_all ts k is = ap (λ o. and_then (and_then o (λ c j. columns_from (length j) (c ∷ []) j)) finish) is

  reads_all : (t u : Token) (c : Column) → IsColumnAt [] t u c → (ts : List Token) → all_from (t ∷ u ∷ ts) ≡ list_from (length (words ts)) (c ∷ []) ts
  reads_all t u c is ts = ap (λ o. and_then (and_then o (λ c j. columns_from (length j) (c ∷ []) j)) finish) (column_reads [] t u c is ts)

  by_fault : (cs : List Column) (ts : List Token) (place : ℕ) → cs ≡ [] → ColumnFault end cs ts place → Left end ts place (all_from ts)
  by_fault _ _ _ none (ColumnFault.name cs ts missing) =
      ([], ts, refl, fails_all ts (length (words ts)) (ap (λ l. column l (words ts)) (sym none) ∙ name_fails cs ts missing), refl)
  by_fault _ _ _ none (ColumnFault.sort cs t ts name found missing) =
      (t ∷ [], ts, refl, fails_all (t ∷ ts) (length (words ts)) (ap (λ l. column l (words (t ∷ ts))) (sym none) ∙ sort_fails cs t ts name found missing), refl)
  by_fault _ _ _ none (ColumnFault.bool_key t u ts name found is) = ([], t ∷ u ∷ ts, refl, fails_all (t ∷ u ∷ ts) (length (words (t ∷ u ∷ ts))) (key_fails t u ts name found is), refl)
  by_fault _ _ _ none (ColumnFault.behind [] t u v ts c is other) =
      (t ∷ u ∷ [], v ∷ ts, refl, reads_all t u c is (v ∷ ts) ∙ turn_ends (length (words ts)) (c ∷ []) v ts other, refl)
  by_fault _ _ _ none (ColumnFault.behind (d ∷ cs) t u v ts c is other) = absurd cc
  by_fault _ _ _ none (ColumnFault.later [] t u v ts c place is at f) =
      let r = more_fails (c ∷ []) ts place f (length (words ts)) (let same = length_words ts in omega arith) in
      (t ∷ u ∷ v ∷ r.0, r.1, ap (λ l. t ∷ u ∷ v ∷ l) r.2, reads_all t u c is (v ∷ ts) ∙ turn_goes (length (words ts)) (c ∷ []) v ts at ∙ r.3, r.4)
  by_fault _ _ _ none (ColumnFault.later (d ∷ cs) t u v ts c place is at f) = absurd cc

-- ---- the whole

abbrev behind_engine : List ℕ → Bool → Input → Outcome Table
behind_engine name store = columns >>= (λ cs. ended (made name store cs))

abbrev behind_name : List ℕ → Input → Outcome Table
behind_name name = engine >>= behind_engine name

pub table_fails : (tables : List TableLine) (end : ℕ) (ts : List Token) (place : ℕ) → TableFault tables end ts place → Left end ts place (table tables (words ts))
unfolding table table_name engine columns
table_fails tables end _ _ (TableFault.name [] none) = ([], [], refl, refl, refl)
table_fails tables end _ _ (TableFault.name (t ∷ ts) none) = ([], t ∷ ts, refl, ap (λ o. and_then (take_some o (words (t ∷ ts))) behind_name) none, refl)
table_fails tables end _ _ (TableFault.engine t [] name found none) = (t ∷ [], [], refl, ap (λ o. and_then (take_some o (words (t ∷ []))) behind_name) found, refl)
table_fails tables end _ _ (TableFault.engine t (u ∷ ts) name found none) =
    (t ∷ [], u ∷ ts, refl, ap (λ o. and_then (take_some o (words (t ∷ u ∷ ts))) behind_name) found ∙ ap (λ o. and_then (take_some o (words (u ∷ ts))) (behind_engine name)) none, refl)
table_fails tables end _ _ (TableFault.columns t u ts name store place found is f) =
    let r = by_fault end name store [] ts place refl f in (
      t ∷ u ∷ r.0,
      r.1,
      ap (λ l. t ∷ u ∷ l) r.2,
      ap (λ o. and_then (take_some o (words (t ∷ u ∷ ts))) behind_name) found ∙ ap (λ o. and_then (take_some o (words (u ∷ ts))) (behind_engine name)) is ∙ r.3,
      r.4,
    )
