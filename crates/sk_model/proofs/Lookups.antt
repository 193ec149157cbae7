-- What a row is after a list of writes: its last write, or what it was.
use Rattle.std.specs.Prelude.{ℕ, List, [], ◌∷◌, Option, Some, None, Bool, true, false, cond, not, T, ◌==◌, ◌≡◌, ◌<◌, ◌≤◌, length, slice_index_or, slice_set}
use Rattle.std.proofs.Common.{refl, sym, ap, subst, ◌∙◌, ⊎_elim, arith}
use Rattle.std.specs.List.{flat_map}
use Rattle.std.specs.declared.cmp.Ordering.{Ordering}
use Rattle.std.specs.declared.cmp.Ordering.TheVariants.{Less, Equal, Greater}
use Rattle.std.specs.Ordering.{is_eq, eq_by_cmp}
use Rattle.std.specs.Cmp.{eq_by_cmp_equiv}
use Rattle.std.specs.FinMap.{find, is_sorted}
use Rattle.std.specs.FinMap.Entries.{find-put, find-where_key, is_sorted-put, is_sorted-where_key, same_entries}
use Rattle.std.proofs.lemmas.Bool.{cases_lt, cases_eq, eq-eqb, ne_eqb, eqb-true, and_parts, and_from, false≢true}
use Rattle.std.proofs.lemmas.List.{get_or-set_same, get_or-set_other, length-set, get_or_past}
use Rattle.std.proofs.lemmas.List.Sums.{fold-append}
use Rattle.sk_rows.specs.declared.value.Value.{Value}
use Rattle.sk_rows.specs.Values.{value_cmp}
use Rattle.sk_rows.specs.Orders.{value_cmp_total, value_cmp-IsAntisymmetric}
use Rattle.sk_model.specs.declared.commit.Write.{Write}
use Rattle.sk_model.specs.declared.commit.Commit.{Commit}
use Rattle.sk_model.specs.Calls.{last_row}
use Rattle.sk_model.specs.Database.{RowOf, KeyedRows, Tables, hits, rows_with, table_of, row_of, after_write, after_writes, state}

alike : (key q x : Value) → value_cmp q x ≡ Equal → not (eq_by_cmp value_cmp key x) ≡ not (eq_by_cmp value_cmp key q)
alike key q x e = ap (λ y. not (eq_by_cmp value_cmp key y)) (sym (value_cmp-IsAntisymmetric q x e))

flipped : (b : Bool) (r : Option RowOf) → cond (not b) r None ≡ cond b None r
flipped true r = refl
flipped false r = refl

pub find_rows_with : (rows : KeyedRows) (key : Value) (r : Option RowOf) (q : Value) → find value_cmp q (rows_with rows key r) ≡ cond (eq_by_cmp value_cmp q key) r (find value_cmp q rows)
find_rows_with rows key None q = find-where_key value_cmp (λ x. not (eq_by_cmp value_cmp key x)) q (alike key q) rows ∙ flipped (eq_by_cmp value_cmp key q) (find value_cmp q rows) ∙ ap (λ b. cond b None (find value_cmp q rows)) (tied_symm key q)
  where
    tied_symm : (x y : Value) → eq_by_cmp value_cmp x y ≡ eq_by_cmp value_cmp y x
    tied_symm x y = (eq_by_cmp_equiv value_cmp_total).symm x y
find_rows_with rows key (Some row) q = find-put value_cmp value_cmp_total q key row rows

pub row_after_write : (db : Tables) (w : Write) (t : ℕ) (key : Value) → t < length db → row_of (after_write db w) t key ≡ cond (hits t key w) w.row (row_of db t key)
row_after_write db w t key l = ⊎_elim
    (λ (e : t ≡ w.table).
    let yes : (t == w.table) ≡ true = eq-eqb t w.table e in
    let new : KeyedRows = rows_with (table_of db w.table) w.key w.row in
    let there : slice_index_or (slice_set db w.table new) t [] ≡ new = rw e (get_or-set_same db w.table new [] (omega arith)) in
    rw (there, yes) (find_rows_with (table_of db w.table) w.key w.row key ∙ ap (λ x. cond (eq_by_cmp value_cmp key w.key) w.row (row_of db x key)) (sym e)))
    (λ (ne : t ≡ w.table → ⊥).
    let off : (t == w.table) ≡ false = ne_eqb t w.table ne in
    let new : KeyedRows = rows_with (table_of db w.table) w.key w.row in
    let there : slice_index_or (slice_set db w.table new) t [] ≡ slice_index_or db t [] = get_or-set_other db w.table t new [] ne in
    rw (there, off) refl)
    (cases_eq t w.table)

pub length_after_writes : (db : Tables) (ws : List Write) → length (after_writes db ws) ≡ length db
length_after_writes db [] = refl
length_after_writes db (w ∷ ws) = length_after_writes (after_write db w) ws ∙ length-set db w.table _

pub row_after_writes : (db : Tables) (ws : List Write) (t : ℕ) (key : Value) → t < length db → row_of (after_writes db ws) t key ≡ last_row t key (row_of db t key) ws
row_after_writes db [] t key l = refl
row_after_writes db (w ∷ ws) t key l =
    let len : length (after_write db w) ≡ length db = length-set db w.table _ in
    row_after_writes (after_write db w) ws t key (omega arith) ∙ ap (λ r. last_row t key r ws) (row_after_write db w t key l)

-- a state is the opening after all writes of its commits
pub state_is : (db : Tables) (cs : List Commit) → state db cs ≡ after_writes db (flat_map (λ c. c.writes) cs)
state_is db [] = refl
state_is db (c ∷ cs) = state_is (after_writes db c.writes) cs ∙ sym (fold-append after_write db c.writes (flat_map (λ c. c.writes) cs))

-- each table is in the order of its keys
abbrev pub Sorted : Tables → Type 0
Sorted db = (t : ℕ) → T (is_sorted value_cmp (table_of db t))

pub rows_with_sorted : (rows : KeyedRows) (key : Value) (r : Option RowOf) → T (is_sorted value_cmp rows) → T (is_sorted value_cmp (rows_with rows key r))
rows_with_sorted rows key None h = is_sorted-where_key value_cmp (λ x. not (eq_by_cmp value_cmp key x)) rows h
rows_with_sorted rows key (Some row) h = is_sorted-put value_cmp value_cmp_total key row rows h

pub sorted_after_writes : (db : Tables) (ws : List Write) → Sorted db → Sorted (after_writes db ws)
sorted_after_writes db [] h = h
sorted_after_writes db (w ∷ ws) h = sorted_after_writes (after_write db w) ws one
  where
    one : Sorted (after_write db w)
    one t = ⊎_elim
        (λ (lt : t < length db). ⊎_elim
        (λ (e : t ≡ w.table).
        let new : KeyedRows = rows_with (table_of db w.table) w.key w.row in
        let there : table_of (after_write db w) t ≡ new = rw e (get_or-set_same db w.table new [] (omega arith)) in
        subst (λ rows. T (is_sorted value_cmp rows)) (sym there) (rows_with_sorted (table_of db w.table) w.key w.row (h w.table)))
        (λ (ne : t ≡ w.table → ⊥). subst (λ rows. T (is_sorted value_cmp rows)) (sym (get_or-set_other db w.table t _ [] ne)) (h t))
        (cases_eq t w.table))
        (λ (le : length db ≤ t). subst (λ rows. T (is_sorted value_cmp rows)) (sym (get_or_past (after_write db w) t [] (omega (arith, length-set db w.table (rows_with (table_of db w.table) w.key w.row))))) tt)
        (cases_lt t (length db))

-- two tables in order that agree at each key are equal
pub same_table : (x y : Tables) (t : ℕ) → Sorted x → Sorted y → ((key : Value) → row_of x t key ≡ row_of y t key) → table_of x t ≡ table_of y t
same_table x y t h k is = same_entries value_cmp value_cmp_total value_cmp-IsAntisymmetric (table_of x t) (table_of y t) (h t) (k t) is

-- values that tie are equal
pub tied_is : (x y : Value) → eq_by_cmp value_cmp x y ≡ true → x ≡ y
tied_is x y e = value_cmp-IsAntisymmetric x y (equal_is (value_cmp x y) e)
  where
    equal_is : (o : Ordering) → is_eq o ≡ true → o ≡ Equal
    equal_is Less e = absurd (false≢true e)
    equal_is Equal e = refl
    equal_is Greater e = absurd (false≢true e)

pub tied_itself : (x : Value) → eq_by_cmp value_cmp x x ≡ true
tied_itself x = (eq_by_cmp_equiv value_cmp_total).refl x

-- a write is of its own row, and of no other
pub hits_is : (t : ℕ) (key : Value) (w : Write) → hits t key w ≡ true → (t ≡ w.table) × (key ≡ w.key)
hits_is t key w e =
    let parts : ((t == w.table) ≡ true) × (eq_by_cmp value_cmp key w.key ≡ true) = and_parts (t == w.table) (eq_by_cmp value_cmp key w.key) e in
    (eqb-true t w.table parts.0, tied_is key w.key parts.1)

pub hits_itself : (w : Write) → hits w.table w.key w ≡ true
hits_itself w = and_from (w.table == w.table) (eq_by_cmp value_cmp w.key w.key) (eq-eqb w.table w.table refl) (tied_itself w.key)
