-- Which tables take a row.
use Rattle.std.specs.Prelude.{◌≡◌, ℕ, zero, suc, List, [], ◌∷◌, Option, Some, None, Bool, true, false, ◌&&◌, slice_get}
use Rattle.std.proofs.Common.{refl, sym, ap, subst, ◌∙◌}
use Rattle.std.specs.Cmp.{both_ways}
use Rattle.sk_rows.specs.declared.value.Value.{Value}
use Rattle.sk_rows.specs.declared.table.Table.{Table}
use Rattle.sk_model.specs.Database.{RowOf}
use Rattle.sk_model.specs.Names.{columns_at}
use Rattle.sk_model.specs.Engine.{EngineTable}
use Rattle.sk_model.specs.EngineConditions.{has_key, has_row, fits_key}
use Rattle.sk_model.proofs.Listed.{some_is, none_some}
use Rattle.sk_model.proofs.Fitting.{fit}
use Rattle.sk_table.specs.Fitting.{IsRowFor}

pub columns_none : (tables : List Table) (t : ℕ) → None ≡ slice_get tables t → columns_at tables t ≡ []
columns_none [] t is = refl
columns_none (x ∷ xs) zero is = none_some is
columns_none (x ∷ xs) (suc t) is = columns_none xs t is

pub columns_found : (tables : List Table) (t : ℕ) (found : Table) → Some found ≡ slice_get tables t → columns_at tables t ≡ found.columns
columns_found [] t found is = none_some (sym is)
columns_found (x ∷ xs) zero found is = ap (λ (y : Table). y.columns) (some_is (sym is))
columns_found (x ∷ xs) (suc t) found is = columns_found xs t found is

row_for : (e : EngineTable) (t : ℕ) (key : Value) (row : Option RowOf) (r : Bool) → IsRowFor (columns_at e.catalog t) key row r → r ≡ has_row e t key row
row_for e t key None r h = h
row_for e t key (Some row) r h = both_ways r (has_row e t key (Some row)) (λ a. (fit e t key row).1 (h.0 a)) (λ a. h.1 ((fit e t key row).0 a))

pub goes_nowhere : (e : EngineTable) (t : ℕ) (key : Value) (row : Option RowOf) → None ≡ slice_get e.catalog t → (has_key e t key && has_row e t key row) ≡ false
goes_nowhere e t key row is = ap (λ cs. fits_key cs key && has_row e t key row) (columns_none e.catalog t is)

pub misfits : (e : EngineTable) (t : ℕ) (key : Value) (row : Option RowOf) (found : Table) → Some found ≡ slice_get e.catalog t → fits_key found.columns key ≡ false → (has_key e t key && has_row e t key row) ≡ false
misfits e t key row found is wrong = ap (λ cs. fits_key cs key && has_row e t key row) (columns_found e.catalog t found is) ∙ ap (λ b. b && has_row e t key row) wrong

pub goes : (e : EngineTable) (t : ℕ) (key : Value) (row : Option RowOf) (found : Table) (r : Bool) → Some found ≡ slice_get e.catalog t → fits_key found.columns key ≡ true → IsRowFor found.columns key row r
    → (has_key e t key && has_row e t key row) ≡ r
goes e t key row found r is right h =
    let columns : columns_at e.catalog t ≡ found.columns = columns_found e.catalog t found is in
    ap (λ cs. fits_key cs key && has_row e t key row) columns ∙ ap (λ b. b && has_row e t key row) right
    ∙ sym (row_for e t key row r (subst (λ cs. IsRowFor cs key row r) (sym columns) h))
