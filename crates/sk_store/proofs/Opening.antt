-- The opening rows, loaded one after another.
use Rattle.std.specs.Prelude.{◌≡◌, ◌<◌, ◌≤◌, ◌+◌, ◌-◌, ℕ, zero, suc, List, [], ◌∷◌, ◌++◌, Option, Some, None, Result, Ok, Bool, true, false, cond, ◌==◌, ◌&&◌, T, length, take, drop, get_or, slice_index_or}
use Rattle.std.proofs.Common.{refl, sym, ap, subst, ◌∙◌, ⊎_elim, arith}
use Rattle.std.specs.FinMap.{find, is_sorted}
use Rattle.std.specs.FinMap.Entries.{below_all}
use Rattle.std.specs.List.{AllByRecursion}
use Rattle.std.specs.Ordering.{eq_by_cmp, is_eq, is_lt}
use Rattle.std.specs.declared.cmp.Ordering.{Ordering}
use Rattle.std.specs.declared.cmp.Ordering.TheVariants.{Less, Equal, Greater}
use Rattle.std.proofs.lemmas.Bool.{and_parts, cases_eq, cond-false, cond-true, eq-eqb, ne_eqb}
use Rattle.std.proofs.lemmas.List.{length-take-le, take_more, take_rest}
use Rattle.std.proofs.lemmas.Float.{T_from_true}
use Rattle.sk_rows.specs.declared.value.Value.{Value}
use Rattle.sk_rows.specs.declared.table.Table.{Table}
use Rattle.sk_rows.specs.Values.{value_cmp}
use Rattle.sk_model.specs.Database.{KeyedRows, RowOf, Tables, row_of, table_of}
use Rattle.sk_model.proofs.Lookups.{tied_is, tied_itself}
use Rattle.sk_model.specs.declared.label.Label.{Label}
use Rattle.sk_model.specs.declared.call.EngineFault.{EngineFault}
use Rattle.sk_chain.specs.Chained.{Chained, empty}
use Rattle.sk_chain.specs.Changing.{pushed}
use Rattle.sk_engine.specs.declared.act.Act.TheVariants as act
use Rattle.sk_engine.specs.Rows.{Acts, Chains, Pushed, Pushes, acted, is_row_id, with_chain}
use Rattle.sk_engine.specs.Stands.{begun}
use Rattle.sk_engine.specs.declared.row_id.RowId.{RowId}
use Rattle.sk_engine.proofs.RowIds.{row_id_itself}
use Rattle.sk_store.specs.Loading.{AreNew, AreOpeningRows, Loads, MayLoad, RowsFit, begun_or, with_rows}

-- ---- one row

-- the versions of a row that were changed twice are those of the last change
twice : (chains : Chains) (p : RowId) (c d : Chained) → with_chain (with_chain chains p c) p d ≡ with_chain chains p d
twice chains p c d = λ i t key. at t key i
  where
    at : (t : ℕ) (key : Value) → with_chain (with_chain chains p c) p d t key ≡ with_chain chains p d t key
    at t key = go (is_row_id t key p) refl
      where
        go : (b : Bool) → is_row_id t key p ≡ b → cond (is_row_id t key p) d (cond (is_row_id t key p) c (chains t key)) ≡ cond (is_row_id t key p) d (chains t key)
        go true e = cond-true (is_row_id t key p) d (cond (is_row_id t key p) c (chains t key)) e ∙ sym (cond-true (is_row_id t key p) d (chains t key) e)
        go false e = ap (λ b. cond (is_row_id t key p) d (cond b c (chains t key))) e

-- a change of what a row's change left
pub changed_again : (chains : Chains) (p : RowId) (c : Chained) (f : Chained → Chained) → with_chain (with_chain chains p c) p (f (with_chain chains p c p.table p.key)) ≡ with_chain chains p (f c)
changed_again chains p c f =
    ap (λ d. with_chain (with_chain chains p c) p (f d)) (cond-true (is_row_id p.table p.key p) c (chains p.table p.key) (row_id_itself p))
    ∙ twice chains p c (f c)

pub one_row : (start t : ℕ) (e : Value × RowOf) (chains : Chains) → with_chain chains (record { table = t; key = e.0 }) (begun start (Some e.1)) ≡ with_rows start t (e ∷ []) chains
one_row start t e chains = λ i u q. at u q i
  where
    go : (u : ℕ) (q : Value) (a b : Bool) → cond (a && b) (begun start (Some e.1)) (chains u q) ≡ cond a (begun_or start (cond b (Some e.1) None) (chains u q)) (chains u q)
    go u q true true = refl
    go u q true false = refl
    go u q false b = refl

    at : (u : ℕ) (q : Value) → with_chain chains (record { table = t; key = e.0 }) (begun start (Some e.1)) u q ≡ with_rows start t (e ∷ []) chains u q
    at u q = go u q (u == t) (eq_by_cmp value_cmp q e.0)

-- a write of a row without versions, closed and then stamped
pub one_loaded : {S : Type 0} (shows : S → List Table → Chains → Type 0) (before now : ℕ) (old wrote shut new : S) (start t : ℕ) (e : Value × RowOf) (row : RowOf) (result : Result Bool EngineFault) (first : Bool) → row ≡ e.1 → result ≡ Ok first
    → Pushes shows before now old wrote (record { table = t; key = e.0 }) (record { session = 0; k = 0 }) start (Some row) result
    → Acts shows wrote shut (record { table = t; key = e.0 }) (act.Close 0) → Acts shows shut new (record { table = t; key = e.0 }) (act.Stamp start) → Loads shows old new start t (e ∷ [])
one_loaded shows before now old wrote shut new start t e row result first same is pushes closes stamps = λ tables chains shown free.
    let p : RowId = record { table = t; key = e.0 } in
    let nobody : Label = record { session = 0; k = 0 } in
    let top = pushed (chains t e.0) nobody (Some row) in
    let after = subst (Pushed shows before now wrote tables chains p nobody start (Some row)) is (pushes tables chains shown) in
    let closed = subst (shows shut tables) (changed_again chains p top (acted (act.Close 0))) (closes tables (with_chain chains p top) after.2) in
    let stamped = subst (shows new tables) (changed_again chains p (acted (act.Close 0) top) (acted (act.Stamp start))) (stamps tables (with_chain chains p (acted (act.Close 0) top)) closed) in
    subst (shows new tables)
    (ap (λ c. with_chain chains p (acted (act.Stamp start) (acted (act.Close 0) (pushed c nobody (Some row))))) free.free.0
    ∙ ap (λ r. with_chain chains p (begun start (Some r))) same ∙ one_row start t e chains)
    stamped

-- ---- the rows of a table

less_ne : (o : Ordering) → is_lt o ≡ true → is_eq o ≡ false
less_ne Less e = refl
less_ne Equal e = absurd cc
less_ne Greater e = refl

-- a key that is below another is not equal to it
above : (x y : Value) → is_lt (value_cmp x y) ≡ true → is_eq (value_cmp y x) ≡ false
above x y e = go (is_eq (value_cmp y x)) refl
  where
    go : (b : Bool) → is_eq (value_cmp y x) ≡ b → is_eq (value_cmp y x) ≡ false
    go false f = f
    go true f = absurd (let no : true ≡ false = sym (tied_itself x) ∙ ap (λ z. is_eq (value_cmp x z)) (sym (tied_is y x f)) ∙ less_ne (value_cmp x y) e in cc)

none_behind : (key : Value) (rows : KeyedRows) → below_all value_cmp key rows ≡ true → find value_cmp key rows ≡ None
none_behind key [] h = refl
none_behind key (r ∷ rs) h =
    let parts = and_parts (is_lt (value_cmp key r.0)) (below_all value_cmp key rs) h in
    ap (λ b. cond b (Some r.1) (find value_cmp key rs)) (less_ne (value_cmp key r.0) parts.0) ∙ none_behind key rs parts.1

from_T : (b : Bool) → T b → b ≡ true
from_T true h = refl
from_T false h = absurd h

in_order : (e : Value × RowOf) (rest : KeyedRows) → T (is_sorted value_cmp (e ∷ rest)) → (below_all value_cmp e.0 rest ≡ true) × (is_sorted value_cmp rest ≡ true)
in_order e rest h = and_parts (below_all value_cmp e.0 rest) (is_sorted value_cmp rest) (from_T (is_sorted value_cmp (e ∷ rest)) h)

pub first_new : (tables : List Table) (chains : Chains) (t : ℕ) (e : Value × RowOf) (rest : KeyedRows) → AreNew tables chains t (e ∷ rest) → AreNew tables chains t (e ∷ [])
first_new tables chains t e rest h = record { there = h.there; ordered = tt; fit = (h.fit.0, tt); free = (h.free.0, tt) }

pub rest_new : (tables : List Table) (chains : Chains) (start t : ℕ) (e : Value × RowOf) (rest : KeyedRows) → AreNew tables chains t (e ∷ rest) → AreNew tables (with_rows start t (e ∷ []) chains) t rest
rest_new tables chains start t e rest h = record {
  there = h.there;
  ordered = T_from_true (is_sorted value_cmp rest) (in_order e rest h.ordered).1;
  fit = h.fit.1;
  free = free rest (in_order e rest h.ordered).0 h.free.1;
}
  where
    free : (rs : KeyedRows) → below_all value_cmp e.0 rs ≡ true → AllByRecursion (λ (r : Value × RowOf). chains t r.0 ≡ empty) rs → AllByRecursion (λ (r : Value × RowOf). with_rows start t (e ∷ []) chains t r.0 ≡ empty) rs
    free [] b f = tt
    free (r ∷ rs) b f =
        let parts = and_parts (is_lt (value_cmp e.0 r.0)) (below_all value_cmp e.0 rs) b in (
          cond-true (t == t) (begun_or start (find value_cmp r.0 (e ∷ [])) (chains t r.0)) (chains t r.0) (eq-eqb t t refl)
              ∙ ap (λ x. begun_or start (cond x (Some e.1) None) (chains t r.0)) (above e.0 r.0 parts.0) ∙ f.0,
          free rs parts.1 f.1,
        )

-- one row of a table, and then the others
pub more_rows : (start t : ℕ) (e : Value × RowOf) (rest : KeyedRows) (chains : Chains) → T (is_sorted value_cmp (e ∷ rest))
    → with_rows start t rest (with_rows start t (e ∷ []) chains) ≡ with_rows start t (e ∷ rest) chains
more_rows start t e rest chains s = λ i u q. at u q (u == t) i
  where
    key : (u : ℕ) (q : Value) (b : Bool) → is_eq (value_cmp q e.0) ≡ b → begun_or start (find value_cmp q rest) (begun_or start (cond b (Some e.1) None) (chains u q)) ≡ begun_or start (cond b (Some e.1) (find value_cmp q rest)) (chains u q)
    key u q true f = ap (λ o. begun_or start o (begun start (Some e.1))) (ap (λ k. find value_cmp k rest) (tied_is q e.0 f) ∙ none_behind e.0 rest (in_order e rest s).0)
    key u q false f = refl

    at : (u : ℕ) (q : Value) (b : Bool) → cond b (begun_or start (find value_cmp q rest) (cond b (begun_or start (find value_cmp q (e ∷ [])) (chains u q)) (chains u q))) (cond b (begun_or start (find value_cmp q (e ∷ [])) (chains u q)) (chains u q))
        ≡ cond b (begun_or start (find value_cmp q (e ∷ rest)) (chains u q)) (chains u q)
    at u q true = key u q (is_eq (value_cmp q e.0)) refl
    at u q false = refl

-- what is shown now, with what is left of a list, is what the whole list makes of what was shown
abbrev pub LoadedTo : {S : Type 0} → (S → List Table → Chains → Type 0) → S → S → ℕ → ℕ → KeyedRows → KeyedRows → Type 0
LoadedTo shows old now start t all rest = (tables : List Table) (chains : Chains) → shows old tables chains → AreNew tables chains t all
    → (then : Chains) × shows now tables then × AreNew tables then t rest × (with_rows start t rest then ≡ with_rows start t all chains)

list_begins : {X : Type 0} (xs : List X) (x : X) → 1 ≤ length xs → x ≡ get_or xs 0 x → xs ≡ x ∷ take (length xs - 1) (drop 1 xs)
list_begins [] x some g = absurd (omega arith)
list_begins (y ∷ ys) x some g = ap (λ w. w ∷ ys) (sym g) ∙ ap (λ zs. x ∷ zs) (sym (take_rest (y ∷ ys) 1))

pub next_row : {S : Type 0} (shows : S → List Table → Chains → Type 0) (old now new : S) (start t : ℕ) (all list : KeyedRows) (e : Value × RowOf) → 1 ≤ length list → e ≡ get_or list 0 e
    → LoadedTo shows old now start t all list → Loads shows now new start t (e ∷ []) → LoadedTo shows old new start t all (take (length list - 1) (drop 1 list))
next_row shows old now new start t all list e some first so loads = λ tables chains shown free.
    let rest = take (length list - 1) (drop 1 list) in
    let k = subst (λ rs. LoadedTo shows old now start t all rs) (list_begins list e some first) so tables chains shown free in
    (with_rows start t (e ∷ []) k.0, loads tables k.0 k.1 (first_new tables k.0 t e rest k.2), rest_new tables k.0 start t e rest k.2, more_rows start t e rest k.0 k.2.ordered ∙ k.3)

-- nothing is left
pub rows_done : {S : Type 0} (shows : S → List Table → Chains → Type 0) (old now : S) (start t : ℕ) (all list : KeyedRows) → length list < 1 → LoadedTo shows old now start t all list → Loads shows old now start t all
rows_done shows old now start t all [] l so = λ tables chains shown free. let k = so tables chains shown free in subst (shows now tables) (none k.0 ∙ k.3) k.1
  where
    none : (chains : Chains) → chains ≡ with_rows start t [] chains
    none chains = λ i u q. at (u == t) (chains u q) i
      where
        at : (b : Bool) (c : Chained) → c ≡ cond b c c
        at true c = refl
        at false c = refl
rows_done shows old now start t all (e ∷ rest) l so = absurd (omega arith)

-- ---- all tables

-- the opening rows of the first tables
abbrev pub first_begun : ℕ → Tables → Chains
first_begun start opening t key = begun start (row_of opening t key)

past_table : (xs : Tables) (q : Value) → row_of xs (length xs) q ≡ None
past_table [] q = refl
past_table (x ∷ xs) q = past_table xs q

here_table : (xs : Tables) (rows : KeyedRows) (q : Value) → row_of (xs ++ rows ∷ []) (length xs) q ≡ find value_cmp q rows
here_table [] rows q = refl
here_table (x ∷ xs) rows q = here_table xs rows q

other_table : (xs : Tables) (rows : KeyedRows) (t : ℕ) (q : Value) → (t ≡ length xs → ⊥) → row_of (xs ++ rows ∷ []) t q ≡ row_of xs t q
other_table [] rows zero q ne = absurd (ne refl)
other_table [] rows (suc t) q ne = refl
other_table (x ∷ xs) rows zero q ne = refl
other_table (x ∷ xs) rows (suc t) q ne = other_table xs rows t q (λ e. ne (ap suc e))

next_table : (start : ℕ) (xs : Tables) (rows : KeyedRows) (t : ℕ) (q : Value) → with_rows start (length xs) rows (first_begun start xs) t q ≡ first_begun start (xs ++ rows ∷ []) t q
next_table start xs rows t q = ⊎_elim
    (λ (e : t ≡ length xs).
    cond-true (t == length xs) (begun_or start (find value_cmp q rows) (first_begun start xs t q)) (first_begun start xs t q) (eq-eqb t (length xs) e)
    ∙ ap (λ o. begun_or start (find value_cmp q rows) (begun start o)) (ap (λ n. row_of xs n q) e ∙ past_table xs q) ∙ bare (find value_cmp q rows)
    ∙ ap (begun start) (sym (ap (λ n. row_of (xs ++ rows ∷ []) n q) e ∙ here_table xs rows q)))
    (λ (ne : t ≡ length xs → ⊥).
    cond-false (t == length xs) (begun_or start (find value_cmp q rows) (first_begun start xs t q)) (first_begun start xs t q) (ne_eqb t (length xs) ne)
    ∙ ap (begun start) (sym (other_table xs rows t q ne)))
    (cases_eq t (length xs))
  where
    bare : (o : Option RowOf) → begun_or start o empty ≡ begun start o
    bare None = refl
    bare (Some row) = refl

pub next_begun : (start : ℕ) (xs : Tables) (rows : KeyedRows) → with_rows start (length xs) rows (first_begun start xs) ≡ first_begun start (xs ++ rows ∷ [])
next_begun start xs rows = λ i t q. next_table start xs rows t q i

-- the rows of the table behind the first ones
pub table_new : (tables : List Table) (opening xs : Tables) (start : ℕ) (rows : KeyedRows) → AreOpeningRows tables opening → length xs < length opening → rows ≡ table_of opening (length xs) → AreNew tables (first_begun start xs) (length xs) rows
table_new tables opening xs start rows h l e = record {
  there = let same = h.count in omega arith;
  ordered = subst (λ rs. T (is_sorted value_cmp rs)) (sym e) (h.ordered (length xs));
  fit = subst (λ rs. RowsFit tables (length xs) rs) (sym e) (h.fit (length xs));
  free = free rows;
}
  where
    free : (rs : KeyedRows) → AllByRecursion (λ (r : Value × RowOf). first_begun start xs (length xs) r.0 ≡ empty) rs
    free [] = tt
    free (r ∷ rs) = (ap (begun start) (past_table xs r.0), free rs)

there : {X : Type 0} (xs : List X) (i : ℕ) (d e : X) → i < length xs → slice_index_or xs i d ≡ slice_index_or xs i e
there [] i d e l = absurd (omega arith)
there (x ∷ xs) zero d e l = refl
there (x ∷ xs) (suc i) d e l = let less : i < length xs = omega arith in there xs i d e less

-- the rows of a list that was handed on
pub item_same : (opening : Tables) (i : ℕ) (item rows : KeyedRows) → rows ≡ item → item ≡ slice_index_or opening i item → rows ≡ slice_index_or opening i rows
item_same opening i item rows e is = e ∙ is ∙ ap (slice_index_or opening i) (sym e)

module _ {S : Type 0} (shows : S → List Table → Chains → Type 0) (now : S) (start i number : ℕ) (opening : Tables) (rows : KeyedRows)
    (l : i < length opening) (same : number ≡ i) (is : rows ≡ slice_index_or opening i rows) where
  table_at : (tables : List Table) → AreOpeningRows tables opening → AreNew tables (first_begun start (take i opening)) number rows
  table_at tables h =
      let below : i ≤ length opening = omega arith in
      let len = length-take-le i opening below in
      subst (λ n. AreNew tables (first_begun start (take i opening)) n rows) (len ∙ sym same)
      (table_new tables opening (take i opening) start rows h (subst (λ n. n < length opening) (sym len) l) (is ∙ there opening i rows [] l ∙ ap (table_of opening) (sym len)))

  pub may_load : (tables : List Table) → AreOpeningRows tables opening → shows now tables (first_begun start (take i opening)) → MayLoad shows now number rows
  may_load tables h shown = (tables, first_begun start (take i opening), shown, table_at tables h)

  -- one table more
  pub next_loaded : (new : S) (tables : List Table) → Loads shows now new start number rows → AreOpeningRows tables opening → shows now tables (first_begun start (take i opening)) → shows new tables (first_begun start (take (i + 1) opening))
  next_loaded new tables loads h shown =
      let below : i ≤ length opening = omega arith in
      subst (shows new tables)
      (ap (λ n. with_rows start n rows (first_begun start (take i opening))) (same ∙ sym (length-take-le i opening below)) ∙ next_begun start (take i opening) rows ∙ ap (first_begun start) (ap (λ r. take i opening ++ r ∷ []) is ∙ sym (take_more opening i rows l)))
      (loads tables (first_begun start (take i opening)) shown (table_at tables h))
