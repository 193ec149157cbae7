-- What a statement that nothing refuses writes over rows that fit does fit.
use Rattle.std.specs.Prelude.{ℕ, Bool, true, false, cond, not, ◌&&◌, ◌||◌, ◌≡◌, List, [], ◌∷◌, find, Option, Some, None, Result, Ok, Err}
use Rattle.std.proofs.Common.{refl, sym, ap, subst, ◌∙◌, ⊎_elim}
use Rattle.std.specs.List.{list_any, list_all}
use Rattle.std.specs.Str.{bytes_eq}
use Rattle.std.proofs.lemmas.Bool.{and_parts, cases_Bool, false≢true, not-true, not-false, or_parts}
use Rattle.std.proofs.lemmas.Slice.Eq.{bytes_eq-Decides}
use Rattle.sk_rows.specs.declared.value.Sort.{Sort}
use Rattle.sk_rows.specs.declared.value.Value.{Value}
use Rattle.sk_rows.specs.declared.table.Column.{Column}
use Rattle.sk_rows.specs.declared.table.Table.{Table}
use Rattle.sk_rows.specs.declared.expr.Expr.{Expr}
use Rattle.sk_rows.specs.declared.statement.SetItem.{SetItem}
use Rattle.sk_rows.specs.declared.statement.Statement.{Statement}
use Rattle.sk_rows.specs.declared.statement.Statement.TheVariants as statement
use Rattle.sk_rows.specs.declared.faults.TypeFault.{TypeFault}
use Rattle.sk_rows.specs.declared.faults.ValueFault.{ValueFault}
use Rattle.sk_rows.specs.Catalog.{has_column, are_named}
use Rattle.sk_rows.specs.Typing.{column_sort, sort_in}
use Rattle.sk_model.specs.declared.reply.ErrWord.TheVariants as err
use Rattle.sk_model.specs.Database.{KeyedRows}
use Rattle.sk_model.specs.Names.{columns_at, names_known, sets_known, cond_known, sets_twice, sets_key}
use Rattle.sk_model.specs.Sorts.{have_sorts, is_sort, is_condition, sets_sorts}
use Rattle.sk_model.specs.Replies.{insert_refusal, select_refusal, update_refusal, delete_refusal, refusal_in, key_of, key_read, comes_to, select_answer}
use Rattle.sk_model.specs.Reads.{rows_met}
use Rattle.sk_model.proofs.Lists.{Each, each_both, each_weaker}
use Rattle.sk_model.specs.Texts.{expr_is_short, texts_are_short}
use Rattle.sk_linked.proofs.Coming.{Placed, PutFits, IsColumnOf, NewValueFits, KeyStays, HasColumns, key_sort, new_row_fits, inserted_fits, deleted_fits, updated_fits}
use Rattle.sk_model.specs.EngineConditions.{fits_key}
use Rattle.sk_linked.proofs.Keying.{asked_fits}
use Rattle.sk_linked.proofs.Valuing.{IsOfSort, same_is, value_fits}

-- ---- names

apart : (a b : List ℕ) → bytes_eq a b ≡ false → bytes_eq b a ≡ false
apart a b e = ⊎_elim (λ (t : bytes_eq b a ≡ true). absurd (false≢true (sym e ∙ (bytes_eq-Decides a b).1 (sym ((bytes_eq-Decides b a).0 t))))) (λ (f : bytes_eq b a ≡ false). f) (cases_Bool (bytes_eq b a))

each_none : {X : Type 0} (p : X → Bool) (xs : List X) → list_any p xs ≡ false → Each (λ x. p x ≡ false) xs
each_none p [] e = tt
each_none p (x ∷ xs) e = let both : (p x ≡ false) × (list_any p xs ≡ false) = or_parts _ _ e in (both.0, each_none p xs both.1)

each_all : {X : Type 0} (p : X → Bool) (xs : List X) → list_all p xs ≡ true → Each (λ x. p x ≡ true) xs
each_all p [] e = tt
each_all p (x ∷ xs) e = ((and_parts _ _ e).0, each_all p xs (and_parts _ _ e).1)

-- a column behind another one is found behind it
found_behind : (c : Column) (cs : List Column) (d : Column) → (bytes_eq d.name c.name ≡ false) × IsColumnOf cs d → IsColumnOf (c ∷ cs) d
unfolding column_sort
found_behind c cs d h = let other : bytes_eq c.name d.name ≡ false = apart d.name c.name h.0 in rw other h.1

found_first : (c : Column) (cs : List Column) → IsColumnOf (c ∷ cs) c
unfolding column_sort
found_first c cs = let same : bytes_eq c.name c.name ≡ true = (bytes_eq-Decides c.name c.name).1 refl in rw same refl

-- of columns with names that differ, each is the one of its name
own_columns : (cs : List Column) → are_named cs ≡ true → Each (IsColumnOf cs) cs
own_columns [] e = tt
own_columns (c ∷ cs) e =
    let unlike : has_column c.name cs ≡ false = not-true _ (and_parts _ _ (and_parts _ _ e).0).1 in
    let behind : Each (IsColumnOf cs) cs = own_columns cs (and_parts _ _ e).1 in
    (found_first c cs, each_weaker _ (IsColumnOf (c ∷ cs)) (found_behind c cs) cs (each_both (λ (d : Column). bytes_eq d.name c.name ≡ false) (IsColumnOf cs) cs (each_none (λ (d : Column). bytes_eq d.name c.name) cs unlike) behind))

-- ---- UPDATE

first_some : {X : Type 0} (b : Bool) (x : X) (o : Option X) → cond b (Some x) o ≡ None → (b ≡ false) × (o ≡ None)
first_some false x o e = (refl, e)
first_some true x o e = absurd cc

unset : (c : Column) (sets : List SetItem) → list_any (λ (s : SetItem). bytes_eq c.name s.column) sets ≡ false → find (λ (s : SetItem). bytes_eq s.column c.name) sets ≡ None
unset c [] e = refl
unset c (s ∷ ss) e =
    let both : (bytes_eq c.name s.column ≡ false) × (list_any (λ (s : SetItem). bytes_eq c.name s.column) ss ≡ false) = or_parts _ _ e in
    let other : bytes_eq s.column c.name ≡ false = apart c.name s.column both.0 in
    rw other (unset c ss both.1)

key_stays : (columns : List Column) (sets : List SetItem) → sets_key columns sets ≡ false → KeyStays columns sets
key_stays [] sets e = tt
key_stays (c ∷ cs) sets e = unset c sets e

-- what is found passes, and has what each has
found_has : {X : Type 0} (Q : X → Type 0) (p : X → Bool) (xs : List X) (x : X) → Each Q xs → find p xs ≡ Some x → (p x ≡ true) × Q x
found_has Q p [] x h e = absurd cc
found_has Q p (y ∷ ys) x h e = go (p y) refl (λ f. found_has Q p ys x h.1 f) e
  where
    go : (b : Bool) → p y ≡ b → (find p ys ≡ Some x → (p x ≡ true) × Q x) → cond b (Some y) (find p ys) ≡ Some x → (p x ≡ true) × Q x
    go true t ih e = let same : y ≡ x = cc in subst (λ z. (p z ≡ true) × Q z) same (t, h.0)
    go false t ih e = ih e

-- a checked value of a column
abbrev IsSet : List Column → SetItem → Type 0
IsSet columns s = (is_sort (sort_in columns s.value) (column_sort s.column columns) ≡ true) × (expr_is_short s.value ≡ true)

new_value_fits : (columns : List Column) (sets : List SetItem) → Each (IsSet columns) sets → NewValueFits columns sets
new_value_fits columns sets set row c s v sorts short own found is =
    let has : (bytes_eq s.column c.name ≡ true) × IsSet columns s = found_has (IsSet columns) (λ (s : SetItem). bytes_eq s.column c.name) sets s set found in
    let name : s.column ≡ c.name = (bytes_eq-Decides s.column c.name).0 has.0 in
    go (sort_in columns s.value) refl (subst (λ o. is_sort (sort_in columns s.value) o ≡ true) (ap (λ n. column_sort n columns) name ∙ own) has.1.0) has.1.1
  where
    go : (o : Result Sort TypeFault) → sort_in columns s.value ≡ o → is_sort o (Some c.sort) ≡ true → expr_is_short s.value ≡ true → IsOfSort c.sort v
    go (Ok t) q e k = subst (λ u. IsOfSort u v) (same_is t c.sort e) (value_fits columns row sorts short s.value t v k q is)
    go (Err f) q e k = absurd (false≢true e)

-- ---- what is not refused is checked

inserts : (columns : List Column) (values : List Value) → insert_refusal columns values ≡ None → have_sorts values columns ≡ true
unfolding insert_refusal
inserts columns values e = sorts (have_sorts values columns) e
  where
    sorts : (b : Bool) → cond b None (Some err.Type) ≡ None → b ≡ true
    sorts true e = refl
    sorts false e = absurd cc

selects : (columns : List Column) (names : Option (List (List ℕ))) (e : Option Expr) → select_refusal columns names e ≡ None → is_condition columns e ≡ true
unfolding select_refusal
selects columns names e q =
    let first : (not (names_known columns names && cond_known columns e) ≡ false) × (_ ≡ None) = first_some _ _ _ q in
    not-false _ (first_some _ _ _ first.1).0

deletes : (columns : List Column) (e : Option Expr) → delete_refusal columns e ≡ None → is_condition columns e ≡ true
unfolding delete_refusal
deletes columns e q =
    let first : (not (cond_known columns e) ≡ false) × (_ ≡ None) = first_some _ _ _ q in
    not-false _ (first_some _ _ _ first.1).0

-- an UPDATE sets no key, and values of their columns' sorts where its condition is a truth
record Updates (columns : List Column) (sets : List SetItem) (e : Option Expr) : Type 0 where
  unkeyed : sets_key columns sets ≡ false
  sorts : sets_sorts columns sets ≡ true
  condition : is_condition columns e ≡ true

updates : (columns : List Column) (sets : List SetItem) (e : Option Expr) → update_refusal columns sets e ≡ None → Updates columns sets e
unfolding update_refusal
updates columns sets e q =
    let first : (((not (sets_known columns sets && cond_known columns e)) || sets_twice sets) ≡ false) × (_ ≡ None) = first_some _ _ _ q in
    let second : (sets_key columns sets ≡ false) × (_ ≡ None) = first_some _ _ _ first.1 in
    let third : (sets_sorts columns sets ≡ true) × (is_condition columns e ≡ true) = and_parts _ _ (not-false _ (first_some _ _ _ second.1).0) in
    record { unkeyed = second.0; sorts = third.0; condition = third.1 }

-- the key that is read is of the sort of the table's key
pub key_read_fits : (columns : List Column) (s : Statement) (key : Value) → HasColumns columns → refusal_in columns s ≡ None → key_read columns s ≡ Some key → fits_key columns key ≡ true
key_read_fits columns (statement.Begin begun) key here e k = absurd cc
key_read_fits columns statement.Commit key here e k = absurd cc
key_read_fits columns statement.Rollback key here e k = absurd cc
key_read_fits columns (statement.Insert table values) key here e k = let is : key_of values ≡ key = cc in subst (λ v. fits_key columns v ≡ true) is (key_sort columns values here (inserts columns values e))
key_read_fits columns (statement.Select table names q) key here e k = asked_fits columns q key (selects columns names q e) k
key_read_fits columns (statement.Update table sets q) key here e k = asked_fits columns q key (updates columns sets q e).condition k
key_read_fits columns (statement.Delete table q) key here e k = asked_fits columns q key (deletes columns q e) k

-- what a statement comes to over rows that fit, where nothing refuses it and no text of it is too long
pub comes_to_fits : (catalog : List Table) (t : ℕ) (s : Statement) (rows : KeyedRows) → HasColumns (columns_at catalog t) → are_named (columns_at catalog t) ≡ true → refusal_in (columns_at catalog t) s ≡ None → texts_are_short s ≡ true
    → Each (Placed catalog t) rows → Each (PutFits catalog) (comes_to (columns_at catalog t) t s rows).1
comes_to_fits catalog t (statement.Begin begun) rows here named e short h = tt
comes_to_fits catalog t statement.Commit rows here named e short h = tt
comes_to_fits catalog t statement.Rollback rows here named e short h = tt
comes_to_fits catalog t (statement.Insert table values) rows here named e short h = inserted_fits catalog t here values rows (inserts (columns_at catalog t) values e) short
comes_to_fits catalog t (statement.Select table names q) rows here named e short h = none (rows_met (columns_at catalog t) q rows)
  where
    none : (x : Result KeyedRows ValueFault) → Each (PutFits catalog) (select_answer (columns_at catalog t) names x).1
    none (Ok rows) = tt
    none (Err f) = tt
comes_to_fits catalog t (statement.Update table sets q) rows here named e short h =
    let columns : List Column = columns_at catalog t in
    let checked : Updates columns sets q = updates columns sets q e in
    let values : NewValueFits columns sets = new_value_fits columns sets (each_both _ _ sets (each_all _ sets checked.sorts) (each_all _ sets short)) in
    updated_fits catalog t here sets q rows (new_row_fits columns sets (own_columns columns named) values (key_stays columns sets checked.unkeyed)) h
comes_to_fits catalog t (statement.Delete table q) rows here named e short h = deleted_fits catalog t here q rows h
