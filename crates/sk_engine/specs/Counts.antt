-- The numbers of an engine that are used.
use Rattle.std.specs.Prelude.{◌≡◌, ℕ, ◌<◌, ◌≤◌, ◌+◌, List, [], ◌∷◌, ◌++◌, Option, Some, None, cond, ◌==◌, ◌&&◌, nat_lt, IfSome}
use Rattle.std.specs.Option.{option_map}
use Rattle.std.specs.List.{filter, flat_map, list_any, AllByRecursion}
use Rattle.std.specs.List.Sorted.{IsStrictlySortedBy}
use Rattle.sk_rows.specs.declared.value.Value.{Value}
use Rattle.sk_model.specs.declared.label.Label.{Label}
use Rattle.sk_model.specs.Numbers.{Rises}
use Rattle.sk_model.specs.Engine.{EngineTable, Version, is_of}
use Rattle.sk_model.specs.EngineReplies.{is_used, is_stamped_with, horizon_of, last_in}
use Rattle.sk_engine.specs.declared.row_id.RowId.{RowId}
use Rattle.sk_engine.specs.declared.numbers.Number.{Number}
use Rattle.sk_engine.specs.Rows.{is_among}
use Rattle.sk_engine.specs.Stands.{row_id_cmp}

-- a number that is used: whose it is, and which rows it wrote, or none where it was voided
pub record Used : Type 0 where
  pub n : ℕ
  pub by : Label
  pub wrote : Option (List RowId)

abbrev pub used : Number → Used
used x = record { n = x.n; by = x.by; wrote = option_map (λ s. s.keys) x.wrote }

-- up from a number as long as the next of these is the next number
abbrev pub climbed : ℕ → List Used → ℕ
climbed top [] = top
climbed top (u ∷ us) = cond (u.n == top + 1) (climbed u.n us) top

abbrev pub number_in : Used → Option ℕ
number_in u = Some u.n

abbrev pub stamped_in : Used → Option (List RowId) → List (ℕ × Label)
stamped_in u None = []
stamped_in u (Some row_ids) = (u.n, u.by) ∷ []

-- those that were stamped, with their labels
abbrev pub stamped_of : List Used → List (ℕ × Label)
stamped_of us = flat_map (λ u. stamped_in u u.wrote) us

-- these are in order, and are the rows that the number wrote
pub record Wrote (versions : List Version) (n : ℕ) (row_ids : List RowId) : Type 0 where
  pub ordered : IsStrictlySortedBy row_id_cmp row_ids
  pub rows : (t : ℕ) (key : Value) → is_among t key row_ids ≡ list_any (λ v. is_of t key v && is_stamped_with n v) versions

-- the numbers past p, rising, are the ones that the table has used, with what each wrote; and h is the table's horizon
pub record Counts (h p : ℕ) (us : List Used) (e : EngineTable) : Type 0 where
  pub low : p ≤ h
  pub rising : Rises number_in p us
  pub stamped : filter (λ x. nat_lt p x.0) e.stamped ≡ stamped_of us
  pub is_used : (n : ℕ) → p < n → is_used e n ≡ list_any (λ u. u.n == n) us
  pub horizon : h ≡ horizon_of e
  pub wrote : AllByRecursion (λ (u : Used). IfSome u.wrote (Wrote e.versions u.n)) us

-- one number more at its place among these, and the horizon goes up from it
pub record Entered (h then : ℕ) (us next : List Used) (x : Used) : Type 0 where
  pub front : List Used
  pub back : List Used
  pub was : us ≡ front ++ back
  pub now : next ≡ front ++ x ∷ back
  pub behind : AllByRecursion (λ (u : Used). x.n ≤ u.n) back
  pub before : IfSome (last_in None front) (λ (u : Used). u.n < x.n)
  pub climbs : then ≡ climbed h (x ∷ back)
