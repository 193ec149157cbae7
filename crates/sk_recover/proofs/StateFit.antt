-- Rows that fit their tables still fit behind writes that do.
use Rattle.std.proofs.Common.{◌≡◌, ◌≤◌, ℕ, List, [], ◌∷◌, length, Option, Some, None, refl, sym, ap, subst, ◌∙◌, inl, inr}
use Rattle.std.specs.Prelude.{not}
use Rattle.std.specs.declared.cmp.Ordering.{Ordering}
use Rattle.std.specs.declared.cmp.Ordering.TheVariants.{Less, Equal, Greater}
use Rattle.std.specs.Ordering.{eq_by_cmp}
use Rattle.std.specs.List.{AllByRecursion}
use Rattle.std.specs.FinMap.{put}
use Rattle.std.specs.FinMap.Entries.{by_order}
use Rattle.std.proofs.lemmas.Bool.{cases_eq, cases_lt}
use Rattle.std.proofs.lemmas.List.{get_or_past, get_or-set_same, get_or-set_other, length-set}
use Rattle.sk_rows.specs.declared.value.Value.{Value}
use Rattle.sk_rows.specs.declared.table.Table.{Table}
use Rattle.sk_rows.specs.Values.{value_cmp}
use Rattle.sk_rows.specs.Orders.{value_cmp-IsAntisymmetric}
use Rattle.sk_model.specs.declared.commit.Write.{Write}
use Rattle.sk_model.specs.declared.commit.Commit.{Commit}
use Rattle.sk_model.specs.Database.{RowOf, KeyedRows, Tables, rows_with, table_of, after_write, after_writes, after_commit, state}
use Rattle.sk_model.specs.Resembling.{RowFits, CommitFits}
use Rattle.sk_model.proofs.Lists.{each_filter}
use Rattle.sk_recover.specs.Opened.{AllFit}

module _ (tables : List Table) where
  -- a row with its key
  abbrev Fits : ℕ → Value × RowOf → Type 0
  Fits t r = RowFits tables t r.0 (Some r.1)

  -- a row that is put in its place: where its key stands already, that key is its own
  by_place : (t : ℕ) (key : Value) (row : RowOf) (r : Value × RowOf) (rows new : KeyedRows) (o : Ordering) → (o ≡ Equal → key ≡ r.0) → Fits t (key, row) → AllByRecursion (Fits t) (r ∷ rows) → AllByRecursion (Fits t) new
      → AllByRecursion (Fits t) (by_order o ((key, row) ∷ r ∷ rows) ((r.0, row) ∷ rows) (r ∷ new))
  by_place t key row r rows new Less own fits all more = (fits, all)
  by_place t key row r rows new Equal own fits all more = (subst (λ (k : Value). Fits t (k, row)) (own refl) fits, all.1)
  by_place t key row r rows new Greater own fits all more = (all.0, more)

  put_fits : (t : ℕ) (key : Value) (row : RowOf) (rows : KeyedRows) → Fits t (key, row) → AllByRecursion (Fits t) rows → AllByRecursion (Fits t) (put value_cmp key row rows)
  put_fits t key row [] fits all = (fits, tt)
  put_fits t key row (r ∷ rows) fits all = by_place t key row r rows (put value_cmp key row rows) (value_cmp key r.0) (λ e. value_cmp-IsAntisymmetric key r.0 e) fits all (put_fits t key row rows fits all.1)

  rows_with_fit : (t : ℕ) (key : Value) (row : Option RowOf) (rows : KeyedRows) → RowFits tables t key row → AllByRecursion (Fits t) rows → AllByRecursion (Fits t) (rows_with rows key row)
  rows_with_fit t key None rows fits all = each_filter (Fits t) (Fits t) (λ (r : Value × RowOf). not (eq_by_cmp value_cmp key r.0)) (λ r passed f. f) rows all
  rows_with_fit t key (Some row) rows fits all = put_fits t key row rows fits all

  write_fits : (db : Tables) (w : Write) → RowFits tables w.table w.key w.row → AllFit tables db → AllFit tables (after_write db w)
  write_fits db w fits all t =
      let new = rows_with (table_of db w.table) w.key w.row in
      elim (cases_eq t w.table) [
        | inr ne ↦ subst (λ (rows : KeyedRows). AllByRecursion (Fits t) rows) (sym (get_or-set_other db w.table t new [] ne)) (all t)
        | inl is ↦ elim (cases_lt w.table (length db)) [
          | inl lt ↦
              let there : table_of (after_write db w) t ≡ new = ap (λ (k : ℕ). table_of (after_write db w) k) is ∙ get_or-set_same db w.table new [] lt in
              subst (λ (rows : KeyedRows). AllByRecursion (Fits t) rows) (sym there)
              (subst (λ (k : ℕ). AllByRecursion (Fits k) new) (sym is) (rows_with_fit w.table w.key w.row (table_of db w.table) fits (all w.table)))
          | inr le ↦
              let there : table_of (after_write db w) t ≡ [] =
              ap (λ (k : ℕ). table_of (after_write db w) k) is ∙ get_or_past (after_write db w) w.table [] (subst (λ (n : ℕ). n ≤ w.table) (sym (length-set db w.table new)) le) in
              subst (λ (rows : KeyedRows). AllByRecursion (Fits t) rows) (sym there) tt
        ]
      ]

  writes_fit : (ws : List Write) (db : Tables) → AllByRecursion (λ (w : Write). RowFits tables w.table w.key w.row) ws → AllFit tables db → AllFit tables (after_writes db ws)
  writes_fit [] db fit all = all
  writes_fit (w ∷ ws) db fit all = writes_fit ws (after_write db w) fit.1 (write_fits db w fit.0 all)

  -- the rows behind commits whose rows fit
  pub state_fits : (cs : List Commit) (db : Tables) → AllByRecursion (CommitFits tables) cs → AllFit tables db → AllFit tables (state db cs)
  state_fits [] db fit all = all
  state_fits (c ∷ cs) db fit all = state_fits cs (after_commit db c) fit.1 (writes_fit c.writes db fit.0 all)
