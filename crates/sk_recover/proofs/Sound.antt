-- What an opened store obeys, whatever its device tells.
use Rattle.std.proofs.Common.{◌≡◌, ◌≤◌, ◌+◌, ℕ, zero, suc, true, false, List, [], ◌∷◌, ◌++◌, length, Option, Some, None, Result, Ok, refl, sym, ap, subst, ◌∙◌, inl, inr}
use Rattle.std.specs.Prelude.{T, not}
use Rattle.std.specs.declared.cmp.Ordering.TheVariants.{Less}
use Rattle.std.specs.Ordering.{eq_by_cmp}
use Rattle.std.specs.Int.{w32, w64}
use Rattle.std.specs.List.{AllByRecursion}
use Rattle.std.specs.List.Sorted.{IsStrictlySortedBy}
use Rattle.std.specs.Map.{keys_of}
use Rattle.std.specs.FinMap.{is_sorted}
use Rattle.std.specs.FinMap.Entries.{below_all, is_sorted-put, is_sorted-where_key}
use Rattle.std.proofs.lemmas.Bool.{cases_eq, cases_lt}
use Rattle.std.proofs.lemmas.Float.{T_from_true}
use Rattle.std.proofs.lemmas.List.{get_or_past, get_or-set_same, get_or-set_other, length-set}
use Rattle.sk_rows.specs.declared.value.Value.{Value}
use Rattle.sk_rows.specs.declared.table.Table.{Table}
use Rattle.sk_rows.specs.Catalog.{IsCatalog}
use Rattle.sk_rows.specs.Values.{value_cmp}
use Rattle.sk_rows.specs.Orders.{value_cmp_total}
use Rattle.sk_model.specs.declared.commit.Write.{Write}
use Rattle.sk_model.specs.declared.commit.Commit.{Commit}
use Rattle.sk_model.specs.Database.{RowOf, KeyedRows, Tables, rows_with, table_of, after_write, after_writes, after_commit, state}
use Rattle.sk_codec.specs.declared.fault.Fault.{Fault}
use Rattle.sk_codec.specs.declared.fault.What.TheVariants as what
use Rattle.sk_codec.specs.Reading.{Rest, ◌>>=◌, number_at, number_in}
use Rattle.sk_model.specs.Numbers.{greatest_number}
use Rattle.sk_codec.proofs.Parts.{bind_ok, ok_is}
use Rattle.sk_model.specs.Resembling.{CommitFits}
use Rattle.sk_model.proofs.Lists.{each_append}
use Rattle.sk_log.specs.Calls.{image_file}
use Rattle.sk_log.specs.Images.{rows_at, each_at, all_rows_at, Base, base_at}
use Rattle.sk_log.specs.Stores.{Root, LogPosition, begun, byte_in, entry_at, no_rows, opened, rows_of, turns}
use Rattle.sk_log.proofs.Turns.{lies}
use Rattle.sk_recover.specs.Taking.{Rise}
use Rattle.sk_recover.specs.Opened.{AllFit, AreOrdered}
use Rattle.sk_recover.proofs.RowsFit.{base_fits}
use Rattle.sk_recover.proofs.LogsFit.{CommitsFit, turns_fit}
use Rattle.sk_recover.proofs.StateFit.{state_fits}

-- ---- counts

each_counted : {A B : Type 0} (read : B → Rest → Result (A × Rest) Fault) (bs : List B) (rest : Rest) (xs : List A) (after : Rest) → each_at read bs rest ≡ Ok (xs, after) → length xs ≡ length bs
unfolding each_at
each_counted read [] rest xs after e = ap (λ (y : List _ × Rest). length y.0) (sym (ok_is ([], rest) (xs, after) e))
each_counted read (b ∷ bs) rest xs after e =
    let f = bind_ok (read b rest) (λ first. each_at read bs first.1 >>= λ others. Ok (first.0 ∷ others.0, others.1)) (xs, after) e in
    let o = bind_ok (each_at read bs f.0.1) (λ others. Ok (f.0.0 ∷ others.0, others.1)) (xs, after) f.2 in
    ap (λ (y : List _ × Rest). length y.0) (sym (ok_is (f.0.0 ∷ o.0.0, o.0.1) (xs, after) o.2)) ∙ ap suc (each_counted read bs f.0.1 o.0.0 o.0.1 o.1)

-- rows are read for each table
pub counted : (tables : List Table) (rest : Rest) (rows : List KeyedRows) (after : Rest) → all_rows_at tables rest ≡ Ok (rows, after) → length rows ≡ length tables
counted tables rest rows after e = each_counted (λ t rest. rows_at t.columns rest) tables rest rows after e

-- ---- orders

all_below : (k : Value) (es : KeyedRows) → AllByRecursion (λ y. value_cmp k y ≡ Less) (keys_of es) → below_all value_cmp k es ≡ true
all_below k [] all = refl
all_below k (e ∷ es) all = rw (all.0, all_below k es all.1) refl

in_order : (es : KeyedRows) → Rise es → is_sorted value_cmp es ≡ true
unfolding IsStrictlySortedBy
in_order [] rise = refl
in_order (e ∷ es) rise = rw (all_below e.0 es rise.0, in_order es rise.1) refl

all_ordered : (db : Tables) → AllByRecursion Rise db → AreOrdered db
all_ordered [] all t = tt
all_ordered (rows ∷ db) all zero = T_from_true _ (in_order rows all.0)
all_ordered (rows ∷ db) all (suc t) = all_ordered db all.1 t

rows_ordered : (rows : KeyedRows) (key : Value) (row : Option RowOf) → T (is_sorted value_cmp rows) → T (is_sorted value_cmp (rows_with rows key row))
rows_ordered rows key None h = is_sorted-where_key value_cmp (λ k. not (eq_by_cmp value_cmp key k)) rows h
rows_ordered rows key (Some row) h = is_sorted-put value_cmp value_cmp_total key row rows h

abbrev InOrder : KeyedRows → Type 0
InOrder rows = T (is_sorted value_cmp rows)

write_ordered : (db : Tables) (w : Write) → AreOrdered db → AreOrdered (after_write db w)
write_ordered db w h t =
    let new = rows_with (table_of db w.table) w.key w.row in
    elim (cases_eq t w.table) [
      | inr ne ↦ subst InOrder (sym (get_or-set_other db w.table t new [] ne)) (h t)
      | inl is ↦ elim (cases_lt w.table (length db)) [
        | inl lt ↦ subst InOrder (sym (ap (λ (k : ℕ). table_of (after_write db w) k) is ∙ get_or-set_same db w.table new [] lt)) (rows_ordered (table_of db w.table) w.key w.row (h w.table))
        | inr le ↦ subst InOrder (sym (ap (λ (k : ℕ). table_of (after_write db w) k) is ∙ get_or_past (after_write db w) w.table [] (subst (λ (n : ℕ). n ≤ w.table) (sym (length-set db w.table new)) le))) tt
      ]
    ]

writes_ordered : (ws : List Write) (db : Tables) → AreOrdered db → AreOrdered (after_writes db ws)
writes_ordered [] db h = h
writes_ordered (w ∷ ws) db h = writes_ordered ws (after_write db w) (write_ordered db w h)

pub state_ordered : (cs : List Commit) (db : Tables) → AreOrdered db → AreOrdered (state db cs)
state_ordered [] db h = h
state_ordered (c ∷ cs) db h = state_ordered cs (after_commit db c) (writes_ordered c.writes db h)

-- rows that rise stay in order whatever is committed
pub behind_ordered : (db : Tables) (cs : List Commit) (rows : Tables) → AllByRecursion Rise db → rows ≡ state db cs → AreOrdered rows
behind_ordered db cs rows rise is = subst AreOrdered (sym is) (state_ordered cs db (all_ordered db rise))

writes_counted : (ws : List Write) (db : Tables) → length (after_writes db ws) ≡ length db
writes_counted [] db = refl
writes_counted (w ∷ ws) db = writes_counted ws (after_write db w) ∙ length-set db w.table (rows_with (table_of db w.table) w.key w.row)

-- no commit makes a table
pub state_counted : (cs : List Commit) (db : Tables) → length (state db cs) ≡ length db
state_counted [] db = refl
state_counted (c ∷ cs) db = state_counted cs (after_commit db c) ∙ writes_counted c.writes db

-- no rows are in order
pub none_ordered : (tables : List Table) → AreOrdered (no_rows tables)
none_ordered [] t = tt
none_ordered (table ∷ tables) zero = tt
none_ordered (table ∷ tables) (suc t) = none_ordered tables t

pub none_counted : (tables : List Table) → length (no_rows tables) ≡ length tables
none_counted [] = refl
none_counted (table ∷ tables) = ap suc (none_counted tables)

-- ---- rows that fit

-- what a store opens with fits its tables
pub stored_fits : (root : Root) (base one two : List ℕ) (b : Base) (t : LogPosition) → base_at (image_file root.set) base root.size ≡ Ok b → turns (length two + 1) one two (begun root b) ≡ Ok t → IsCatalog b.catalog
    → AllFit b.catalog (rows_of (opened b t))
stored_fits root base one two b t is_base is_last is =
    let first : CommitsFit (begun root b) = record { mem = tt; store = tt } in
    let fit = turns_fit (length two + 1) one two (begun root b) t is_last first in
    let same : t.catalog ≡ b.catalog = (lies (length two + 1) one two (begun root b) t is_last).catalog in
    let order = t.mem ++ t.store in
    let written : AllByRecursion (CommitFits b.catalog) order =
    subst (λ (tables : List Table). AllByRecursion (CommitFits tables) order) same (each_append (CommitFits t.catalog) t.mem t.store fit.mem fit.store) in
    state_fits b.catalog order b.rows written (base_fits (image_file root.set) base root.size b is_base is.good)

-- ---- the root

-- the cut of an entry is a selection
pub entry_cut : (root : List ℕ) (at : ℕ) (r : Root) → entry_at root at ≡ Ok r → r.cut.commit ≡ false
unfolding entry_at
entry_cut root at r e =
    let f = bind_ok (byte_in 1 1 what.Format _) _ _ e in
    let s = bind_ok (byte_in 0 1 what.Tag f.0.1) _ _ f.2 in
    let z = bind_ok (byte_in 0 0 what.Tag s.0.1) _ _ s.2 in
    let q = bind_ok (number_at w32 z.0.1) _ _ z.2 in
    let a = bind_ok (number_in w32 0 greatest_number q.0.1) _ _ q.2 in
    let b = bind_ok (number_in w32 0 greatest_number a.0.1) _ _ a.2 in
    let n = bind_ok (number_at w64 b.0.1) _ _ b.2 in
    ap (λ (x : Root). x.cut.commit) (sym (ok_is _ _ n.2))
