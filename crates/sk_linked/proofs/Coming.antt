-- What a statement writes over rows that fit does fit.
use Rattle.std.specs.Prelude.{ℕ, List, find, [], ◌∷◌, Option, Some, None, Result, Ok, Err, Bool, true, false, cond, ◌&&◌, ◌≡◌, map}
use Rattle.std.proofs.Common.{refl, sym, ap, subst, ◌∙◌}
use Rattle.std.specs.List.{list_all}
use Rattle.std.specs.Str.{bytes_eq}
use Rattle.std.specs.Ordering.{eq_by_cmp}
use Rattle.std.proofs.lemmas.Bool.{and_parts, and_from, false≢true}
use Rattle.sk_rows.specs.declared.value.Value.{Value}
use Rattle.sk_rows.specs.declared.table.Column.{Column}
use Rattle.sk_rows.specs.declared.table.Table.{Table}
use Rattle.sk_rows.specs.declared.expr.Expr.{Expr}
use Rattle.sk_rows.specs.declared.statement.SetItem.{SetItem}
use Rattle.sk_rows.specs.declared.faults.ValueFault.{ValueFault}
use Rattle.sk_rows.specs.Values.{value_cmp, sort_of}
use Rattle.sk_rows.specs.Typing.{column_sort, same_sort}
use Rattle.sk_rows.specs.Evaluation.{◌>>=◌, value_in}
use Rattle.sk_model.specs.declared.commit.Write.{Write}
use Rattle.sk_model.specs.declared.label.Label.{Label}
use Rattle.sk_model.specs.declared.engine.EngineName.{EngineName}
use Rattle.sk_model.specs.declared.call.EngineCall.TheVariants as call
use Rattle.sk_model.specs.Database.{RowOf, KeyedRows, Tables}
use Rattle.sk_model.specs.Engine.{engine_at}
use Rattle.sk_model.specs.Names.{columns_at}
use Rattle.sk_model.specs.Sorts.{have_sorts}
use Rattle.sk_model.specs.Reads.{meets, rows_met}
use Rattle.sk_model.specs.Changes.{new_value, new_values, new_row, new_rows}
use Rattle.sk_model.specs.Replies.{has_room, key_of, row_put, row_gone, inserted, updated, deleted}
use Rattle.sk_model.specs.EngineConditions.{has_table, is_short, are_short, fits_key}
use Rattle.sk_model.proofs.Lists.{Each}
use Rattle.sk_model.proofs.Lookups.{tied_is, tied_itself}
use Rattle.sk_linked.specs.Joining.{fits, row_fits}

-- the row of a key fits its table
abbrev pub Placed : List Table → ℕ → Value × RowOf → Type 0
Placed catalog t p = row_fits catalog t p.0 (Some p.1) ≡ true

-- what a Put of the write asks of its key and its row
abbrev pub PutFits : List Table → Write → Type 0
PutFits catalog w = (fits_key (columns_at catalog w.table) w.key ≡ true) × (row_fits catalog w.table w.key w.row ≡ true)

-- one new row of UPDATE has the sorts, no long text, and the key of the old one
abbrev pub NewRowFits : List Column → List SetItem → Type 0
NewRowFits columns sets = (row new : RowOf) → have_sorts row columns ≡ true → are_short row ≡ true → new_row columns sets row ≡ Ok new
    → (have_sorts new columns ≡ true) × (are_short new ≡ true) × (key_of new ≡ key_of row)

-- it is the column of its name
abbrev pub IsColumnOf : List Column → Column → Type 0
IsColumnOf columns c = column_sort c.name columns ≡ Some c.sort

-- the new value of a column that is set has the column's sort, and is no long text
abbrev pub NewValueFits : List Column → List SetItem → Type 0
NewValueFits columns sets = (row : RowOf) (c : Column) (s : SetItem) (v : Value) → have_sorts row columns ≡ true → are_short row ≡ true → IsColumnOf columns c → find (λ (s : SetItem). bytes_eq s.column c.name) sets ≡ Some s
    → value_in columns row s.value ≡ Ok v → (same_sort (sort_of v) c.sort ≡ true) × (is_short v ≡ true)

-- the key is not set
abbrev pub KeyStays : List Column → List SetItem → Type 0
KeyStays [] sets = Unit {0}
KeyStays (c ∷ cs) sets = find (λ (s : SetItem). bytes_eq s.column c.name) sets ≡ None

-- where the table is the engine's, the call fits
pub call_fits : (name : EngineName) (catalog : List Table) (rows : Tables) (tx : Label) (w : Write) → has_table (engine_at name catalog rows 0) w.table ≡ true → PutFits catalog w → fits name catalog rows (call.Put tx w.table w.key w.row) ≡ true
call_fits name catalog rows tx w h p = and_from _ _ h (and_from _ _ p.0 p.1)

ok_same : {X : Type 0} {x y : X} → ◌≡◌ {A = Result X ValueFault} (Ok x) (Ok y) → x ≡ y
ok_same e = cc

not_ok : {X : Type 0} {x : X} {f : ValueFault} → ◌≡◌ {A = Result X ValueFault} (Err f) (Ok x) → ⊥
not_ok e = cc

module _ (columns : List Column) (sets : List SetItem) (fit : NewValueFits columns sets) (row : RowOf) (sorts : have_sorts row columns ≡ true) (short : are_short row ≡ true) where
  new_value_fits : (c : Column) (o : Option SetItem) (v new : Value) → IsColumnOf columns c → find (λ (s : SetItem). bytes_eq s.column c.name) sets ≡ o → same_sort (sort_of v) c.sort ≡ true → is_short v ≡ true
      → new_value columns row o v ≡ Ok new → (same_sort (sort_of new) c.sort ≡ true) × (is_short new ≡ true)
  new_value_fits c None v new is f s h q = subst (λ (x : Value). (same_sort (sort_of x) c.sort ≡ true) × (is_short x ≡ true)) (ok_same q) (s, h)
  new_value_fits c (Some i) v new is f s h q = fit row c i new sorts short is f q

  new_values_fit : (cs : List Column) (vs new : List Value) → Each (IsColumnOf columns) cs → have_sorts vs cs ≡ true → are_short vs ≡ true → new_values columns row sets cs vs ≡ Ok new → (have_sorts new cs ≡ true) × (are_short new ≡ true)
  new_values_fit [] [] new is s h q = subst (λ (xs : List Value). (have_sorts xs [] ≡ true) × (are_short xs ≡ true)) (ok_same q) (refl, refl)
  new_values_fit [] (v ∷ vs) new is s h q = absurd (false≢true s)
  new_values_fit (c ∷ cs) [] new is s h q = absurd (false≢true s)
  new_values_fit (c ∷ cs) (v ∷ vs) new is s h q =
      go (new_value columns row (find (λ (s : SetItem). bytes_eq s.column c.name) sets) v) (λ x e. new_value_fits c _ v x is.0 refl (and_parts _ _ s).0 (and_parts _ _ h).0 e)
      (new_values columns row sets cs vs) (λ xs e. new_values_fit cs vs xs is.1 (and_parts _ _ s).1 (and_parts _ _ h).1 e) q
    where
      go : (a : Result Value ValueFault) → ((x : Value) → a ≡ Ok x → (same_sort (sort_of x) c.sort ≡ true) × (is_short x ≡ true))
          → (b : Result (List Value) ValueFault) → ((xs : List Value) → b ≡ Ok xs → (have_sorts xs cs ≡ true) × (are_short xs ≡ true))
          → (a >>= λ x. b >>= λ rest. Ok (x ∷ rest)) ≡ Ok new → (have_sorts new (c ∷ cs) ≡ true) × (are_short new ≡ true)
      go (Ok x) f (Ok xs) g q = subst (λ (ys : List Value). (have_sorts ys (c ∷ cs) ≡ true) × (are_short ys ≡ true)) (ok_same q)
          (and_from _ _ (f x refl).0 (g xs refl).0, and_from _ _ (f x refl).1 (g xs refl).1)
      go (Ok x) f (Err e) g q = absurd (not_ok q)
      go (Err e) f b g q = absurd (not_ok q)

  new_key : (cs : List Column) (vs new : List Value) → KeyStays cs sets → have_sorts vs cs ≡ true → new_values columns row sets cs vs ≡ Ok new → key_of new ≡ key_of vs
  new_key [] [] new k s q = ap key_of (sym (ok_same q))
  new_key [] (v ∷ vs) new k s q = absurd (false≢true s)
  new_key (c ∷ cs) [] new k s q = absurd (false≢true s)
  new_key (c ∷ cs) (v ∷ vs) new k s q = go (new_values columns row sets cs vs) (subst (λ (o : Option SetItem). (new_value columns row o v >>= λ x. new_values columns row sets cs vs >>= λ rest. Ok (x ∷ rest)) ≡ Ok new) k q)
    where
      go : (b : Result (List Value) ValueFault) → (b >>= λ rest. Ok (v ∷ rest)) ≡ Ok new → key_of new ≡ v
      go (Ok xs) q = ap key_of (sym (ok_same q))
      go (Err e) q = absurd (not_ok q)

-- so does the new row, where the key is not set
pub new_row_fits : (columns : List Column) (sets : List SetItem) → Each (IsColumnOf columns) columns → NewValueFits columns sets → KeyStays columns sets → NewRowFits columns sets
new_row_fits columns sets is fit k row new s h q =
    let f : (have_sorts new columns ≡ true) × (are_short new ≡ true) = new_values_fit columns sets fit row s h columns row new is s h q in
    (f.0, f.1, new_key columns sets fit row s h columns row new k s q)

key_short : (row : RowOf) → are_short row ≡ true → is_short (key_of row) ≡ true
key_short [] e = refl
key_short (v ∷ vs) e = (and_parts (is_short v) (are_short vs) e).0

abbrev pub HasColumns : List Column → Type 0
HasColumns [] = ⊥
HasColumns (c ∷ cs) = Unit {0}

pub key_sort : (columns : List Column) (row : RowOf) → HasColumns columns → have_sorts row columns ≡ true → fits_key columns (key_of row) ≡ true
key_sort [] row h e = absurd h
key_sort (c ∷ cs) [] h e = absurd (false≢true e)
key_sort (c ∷ cs) (v ∷ vs) h e = (and_parts _ _ e).0

-- ---- the rows that were found, and the new ones

met_each : (P : Value × RowOf → Type 0) (columns : List Column) (e : Option Expr) (rows met : KeyedRows) → Each P rows → rows_met columns e rows ≡ Ok met → Each P met
met_each P columns e [] met h q = subst (λ xs. Each P xs) (ok_same q) tt
met_each P columns e (r ∷ rs) met h q = go (meets columns e r.1) (rows_met columns e rs) (λ rest k. met_each P columns e rs rest h.1 k) q
  where
    go : (a : Result Bool ValueFault) (b : Result KeyedRows ValueFault) → ((rest : KeyedRows) → b ≡ Ok rest → Each P rest)
        → (a >>= λ x. b >>= λ rest. Ok (cond x (r ∷ rest) rest)) ≡ Ok met → Each P met
    go (Ok true) (Ok rest) ih q = subst (λ xs. Each P xs) (ok_same q) (h.0, ih rest refl)
    go (Ok false) (Ok rest) ih q = subst (λ xs. Each P xs) (ok_same q) (ih rest refl)
    go (Ok x) (Err f) ih q = absurd (not_ok q)
    go (Err f) b ih q = absurd (not_ok q)

module _ (catalog : List Table) (t : ℕ) (here : HasColumns (columns_at catalog t)) where
  -- the parts of a row that fits
  record Parts (key : Value) (row : RowOf) : Type 0 where
    sorts : have_sorts row (columns_at catalog t) ≡ true
    short : are_short row ≡ true
    room : has_room row ≡ true
    is : eq_by_cmp value_cmp key (key_of row) ≡ true

  parts_of : (key : Value) (row : RowOf) → Placed catalog t (key, row) → Parts key row
  parts_of key row p =
      let a : (have_sorts row (columns_at catalog t) ≡ true) × ((are_short row && (has_room row && eq_by_cmp value_cmp key (key_of row))) ≡ true) = and_parts _ _ p in
      let b : (are_short row ≡ true) × ((has_room row && eq_by_cmp value_cmp key (key_of row)) ≡ true) = and_parts _ _ a.1 in
      let c : (has_room row ≡ true) × (eq_by_cmp value_cmp key (key_of row) ≡ true) = and_parts _ _ b.1 in
      record { sorts = a.0; short = b.0; room = c.0; is = c.1 }

  -- a row that fits may be put
  put_fits : (key : Value) (row : RowOf) → Parts key row → PutFits catalog (row_put t (key, row))
  put_fits key row p = (
    subst (λ (k : Value). fits_key (columns_at catalog t) k ≡ true) (sym (tied_is key (key_of row) p.is)) (key_sort (columns_at catalog t) row here p.sorts),
    and_from _ _ p.sorts (and_from _ _ p.short (and_from _ _ p.room p.is)),
  )

  gone_fits : (key : Value) (row : RowOf) → Parts key row → PutFits catalog (row_gone t (key, row))
  gone_fits key row p = ((put_fits key row p).0, subst (λ (k : Value). is_short k ≡ true) (sym (tied_is key (key_of row) p.is)) (key_short row p.short))

  -- INSERT: its values have the sorts of the columns, and its texts are short
  pub inserted_fits : (values : List Value) (rows : KeyedRows) → have_sorts values (columns_at catalog t) ≡ true → are_short values ≡ true → Each (PutFits catalog) (inserted t values rows).1
  inserted_fits values [] s h = go (has_room values) refl
    where
      go : (b : Bool) → has_room values ≡ b → Each (PutFits catalog) (inserted t values []).1
      go true r = rw r (put_fits (key_of values) values (record { sorts = s; short = h; room = r; is = tied_itself (key_of values) }), tt)
      go false r = rw r tt
  inserted_fits values (r ∷ rs) s h = tt

  -- DELETE
  pub deleted_fits : (e : Option Expr) (rows : KeyedRows) → Each (Placed catalog t) rows → Each (PutFits catalog) (deleted t (rows_met (columns_at catalog t) e rows)).1
  deleted_fits e rows h = go (rows_met (columns_at catalog t) e rows) (λ met q. met_each (Placed catalog t) (columns_at catalog t) e rows met h q)
    where
      all : (met : KeyedRows) → Each (Placed catalog t) met → Each (PutFits catalog) (map (row_gone t) met)
      all [] k = tt
      all (r ∷ rs) k = (gone_fits r.0 r.1 (parts_of r.0 r.1 k.0), all rs k.1)

      go : (x : Result KeyedRows ValueFault) → ((met : KeyedRows) → x ≡ Ok met → Each (Placed catalog t) met) → Each (PutFits catalog) (deleted t x).1
      go (Ok met) f = all met (f met refl)
      go (Err fault) f = tt

  -- a row that fits but for its length
  record Half (p : Value × RowOf) : Type 0 where
    sorts : have_sorts p.1 (columns_at catalog t) ≡ true
    short : are_short p.1 ≡ true
    is : eq_by_cmp value_cmp p.0 (key_of p.1) ≡ true

  new_each : (sets : List SetItem) → NewRowFits (columns_at catalog t) sets → (rows new : KeyedRows) → Each (Placed catalog t) rows → new_rows (columns_at catalog t) sets rows ≡ Ok new → Each Half new
  new_each sets n [] new h q = subst (λ xs. Each Half xs) (ok_same q) tt
  new_each sets n (r ∷ rs) new h q = go (new_row (columns_at catalog t) sets r.1) refl (new_rows (columns_at catalog t) sets rs) (λ rest k. new_each sets n rs rest h.1 k) q
    where
      go : (a : Result RowOf ValueFault) → new_row (columns_at catalog t) sets r.1 ≡ a → (b : Result KeyedRows ValueFault) → ((rest : KeyedRows) → b ≡ Ok rest → Each Half rest)
          → (a >>= λ row. b >>= λ rest. Ok ((r.0, row) ∷ rest)) ≡ Ok new → Each Half new
      go (Ok row) w (Ok rest) ih q =
          let p : Parts r.0 r.1 = parts_of r.0 r.1 h.0 in
          let k : (have_sorts row (columns_at catalog t) ≡ true) × (are_short row ≡ true) × (key_of row ≡ key_of r.1) = n r.1 row p.sorts p.short w in
          subst (λ xs. Each Half xs) (ok_same q) (record { sorts = k.0; short = k.1; is = ap (eq_by_cmp value_cmp r.0) k.2 ∙ p.is }, ih rest refl)
      go (Ok row) w (Err f) ih q = absurd (not_ok q)
      go (Err f) w b ih q = absurd (not_ok q)

  -- UPDATE, where each new row has the sorts, no long text, and its key
  pub updated_fits : (sets : List SetItem) (e : Option Expr) (rows : KeyedRows) → NewRowFits (columns_at catalog t) sets → Each (Placed catalog t) rows
      → Each (PutFits catalog) (updated t (rows_met (columns_at catalog t) e rows >>= new_rows (columns_at catalog t) sets)).1
  updated_fits sets e rows n h = go (rows_met (columns_at catalog t) e rows) (λ met q. met_each (Placed catalog t) (columns_at catalog t) e rows met h q)
    where
      all : (new : KeyedRows) → Each Half new → list_all (λ (r : Value × RowOf). has_room r.1) new ≡ true → Each (PutFits catalog) (map (row_put t) new)
      all [] k l = tt
      all (r ∷ rs) k l =
          let m : (has_room r.1 ≡ true) × (list_all (λ (r : Value × RowOf). has_room r.1) rs ≡ true) = and_parts _ _ l in
          (put_fits r.0 r.1 (record { sorts = k.0.sorts; short = k.0.short; room = m.0; is = k.0.is }), all rs k.1 m.1)

      fitting : (new : KeyedRows) → Each Half new → (b : Bool) → list_all (λ (r : Value × RowOf). has_room r.1) new ≡ b → Each (PutFits catalog) (updated t (Ok new)).1
      fitting new k true l = rw l (all new k l)
      fitting new k false l = rw l tt

      then : (met : KeyedRows) → Each (Placed catalog t) met → (x : Result KeyedRows ValueFault) → new_rows (columns_at catalog t) sets met ≡ x → Each (PutFits catalog) (updated t x).1
      then met k (Ok new) q = fitting new (new_each sets n met new k q) (list_all (λ (r : Value × RowOf). has_room r.1) new) refl
      then met k (Err f) q = tt

      go : (x : Result KeyedRows ValueFault) → ((met : KeyedRows) → x ≡ Ok met → Each (Placed catalog t) met) → Each (PutFits catalog) (updated t (x >>= new_rows (columns_at catalog t) sets)).1
      go (Ok met) f = then met (f met refl) (new_rows (columns_at catalog t) sets met) refl
      go (Err fault) f = tt
