-- Where a row goes, and which table is kept.
use Rattle.std.specs.Prelude.{◌≡◌, ◌<◌, ◌≤◌, ◌==◌, ◌||◌, ℕ, zero, suc, List, [], ◌∷◌, Option, Some, None, Bool, true, false, cond, not, ◌&&◌, slice_get, map, nat_lt, IfSome, is_some}
use Rattle.std.proofs.Common.{refl, sym, ap, subst, ◌∙◌, ⊎_elim, arith}
use Rattle.std.proofs.lemmas.Bool.{le-ltb, cases_lt}
use Rattle.sk_rows.specs.declared.value.Value.{Value}
use Rattle.sk_rows.specs.declared.table.Table.{Table}
use Rattle.sk_model.specs.declared.engine.EngineName.{EngineName}
use Rattle.sk_model.specs.Database.{RowOf}
use Rattle.sk_model.specs.Names.{columns_at}
use Rattle.sk_model.specs.Engine.{EngineTable, keeps, is_kept}
use Rattle.sk_model.specs.EngineConditions.{has_row, fits_key}
use Rattle.sk_model.proofs.Listed.{some_is, none_some}
use Rattle.sk_model.proofs.Fitting.{fit}
use Rattle.std.specs.Option.{option_map}
use Rattle.std.specs.List.{list_any}
use Rattle.std.specs.Cmp.{both_ways}
use Rattle.sk_model.specs.declared.label.Label.{Label}
use Rattle.sk_model.specs.Engine.{opening_of}
use Rattle.sk_model.specs.Engine.{Opening as Opened}
use Rattle.sk_model.specs.EngineReplies.{is_used}
use Rattle.sk_model.specs.EngineConditions.{may_end, is_closed, floor_of, number_or}
use Rattle.sk_engine.specs.declared.numbers.Number.{Number}
use Rattle.sk_engine.specs.declared.book.Book.{Book}
use Rattle.sk_engine.specs.Rows.{Chains}
use Rattle.sk_engine.specs.Stands.{Held, held_in, timed, floor_by}
use Rattle.sk_engine.specs.Counts.{Used, used}
use Rattle.sk_engine.specs.Engines.{StandsBy}
use Rattle.sk_engine.specs.Permits.{kept_in, kept_at, IsRowFor, may_stop}

kept_found : (name : EngineName) (o : Option Table) (found : Table) → Some found ≡ kept_in name o → (is_kept name o ≡ true) × (o ≡ Some found)
kept_found name None found e = none_some (sym e)
kept_found name (Some t) found e = go (is_kept name (Some t)) refl e
  where
    go : (b : Bool) → is_kept name (Some t) ≡ b → Some found ≡ cond b (Some t) None → (is_kept name (Some t) ≡ true) × (Some t ≡ Some found)
    go true d e = (d, sym e)
    go false d e = none_some (sym e)

columns_found : (tables : List Table) (t : ℕ) (found : Table) → slice_get tables t ≡ Some found → columns_at tables t ≡ found.columns
columns_found [] zero found e = none_some e
columns_found [] (suc t) found e = none_some e
columns_found (x ∷ xs) zero found e = ap (λ (y : Table). y.columns) (some_is e)
columns_found (x ∷ xs) (suc t) found e = columns_found xs t found e

row_for : (e : EngineTable) (t : ℕ) (key : Value) (row : Option RowOf) (r : Bool) → IsRowFor (columns_at e.catalog t) key row r → r ≡ has_row e t key row
row_for e t key None r h = h
row_for e t key (Some row) r h = both_ways r (has_row e t key (Some row)) (λ a. (fit e t key row).1 (h.0 a)) (λ a. h.1 ((fit e t key row).0 a))

pub row_goes : (name : EngineName) (tables : List Table) (t : ℕ) (key : Value) (row : Option RowOf) (found : Table) (r : Bool) (e : EngineTable) → Some found ≡ kept_at name tables t → fits_key found.columns key ≡ true
    → IsRowFor found.columns key row r → e.catalog ≡ tables → r ≡ (keeps name tables t && (fits_key (columns_at tables t) key && has_row e t key row))
row_goes name tables t key row found r e is fits h same =
    let k : (is_kept name (slice_get tables t) ≡ true) × (slice_get tables t ≡ Some found) = kept_found name (slice_get tables t) found is in
    let columns : columns_at tables t ≡ found.columns = columns_found tables t found k.1 in
    row_for e t key row r (subst (λ cs. IsRowFor cs key row r) (sym (ap (λ ts. columns_at ts t) same ∙ columns)) h)
    ∙ sym (ap (λ b. b && (fits_key (columns_at tables t) key && has_row e t key row)) k.0 ∙ ap (λ cs. fits_key cs key && has_row e t key row) columns ∙ ap (λ b. b && has_row e t key row) fits)

pub key_misfits : (name : EngineName) (tables : List Table) (t : ℕ) (key : Value) (row : Option RowOf) (found : Table) (e : EngineTable) → Some found ≡ kept_at name tables t → fits_key found.columns key ≡ false
    → false ≡ (keeps name tables t && (fits_key (columns_at tables t) key && has_row e t key row))
key_misfits name tables t key row found e is fits =
    let k : (is_kept name (slice_get tables t) ≡ true) × (slice_get tables t ≡ Some found) = kept_found name (slice_get tables t) found is in
    sym (ap (λ b. b && (fits_key (columns_at tables t) key && has_row e t key row)) k.0 ∙ ap (λ cs. fits_key cs key && has_row e t key row) (columns_found tables t found k.1) ∙ ap (λ b. b && has_row e t key row) fits)

any_used : (n : ℕ) (xs : List Number) → list_any (λ (u : Used). u.n == n) (map used xs) ≡ list_any (λ (u : Number). u.n == n) xs
any_used n [] = refl
any_used n (x ∷ xs) = ap (λ b. (x.n == n) || b) (any_used n xs)

ends_by : (o : Option Held) (r : Option Opened) (p n : ℕ) (used_now used_here : Bool) → option_map timed o ≡ r → IfSome o (λ h. p ≤ h.snapshot) → IfSome o (λ h. IfSome h.floor (λ f. h.snapshot ≤ f)) → (p < n → used_now ≡ used_here)
    → may_stop (floor_by o) n used_here ≡ (is_closed r && (nat_lt (floor_of r) n && not used_now))
ends_by None r p n a b is t f u = subst (λ x. false ≡ (is_closed x && (nat_lt (floor_of x) n && not a))) is refl
ends_by (Some h) r p n a b is t f u = subst (λ x. may_stop h.floor n b ≡ (is_closed x && (nat_lt (floor_of x) n && not a))) is (at h.floor refl f)
  where
    at : (o : Option ℕ) → h.floor ≡ o → IfSome o (λ f. h.snapshot ≤ f) → may_stop o n b ≡ (is_some o && (nat_lt (number_or 0 o) n && not a))
    at None e l = refl
    at (Some g) e l = ⊎_elim
        (λ (past : g < n). let low : p ≤ h.snapshot = t in ap (λ x. nat_lt g n && not x) (sym (u (omega arith))))
        (λ (le : n ≤ g). ap (λ x. x && not b) (le-ltb g n le) ∙ sym (ap (λ x. x && not a) (le-ltb g n le)))
        (cases_lt g n)

-- a stamp or a void may be made
pub may_ends : (name : EngineName) (shown : List Table → Chains → Type 0) (b : Book) (e : EngineTable) (tx : Label) (n : ℕ) → StandsBy name shown b e
    → may_stop (floor_by (held_in b.openings.entries tx)) n (list_any (λ (u : Number). u.n == n) b.numbers.items) ≡ may_end e tx n
may_ends name shown b e tx n h =
    ends_by (held_in b.openings.entries tx) (opening_of e tx) b.purged n (is_used e n) (list_any (λ (u : Number). u.n == n) b.numbers.items) (h.stands.openings tx) (h.stands.in_time tx) (h.stands.floors tx)
    (λ l. h.counts.is_used n l ∙ any_used n b.numbers.items)
