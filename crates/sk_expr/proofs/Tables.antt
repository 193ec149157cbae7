-- Tables by their numbers.
use Rattle.std.proofs.Common.{◌≡◌, ℕ, ◌<◌, List, [], ◌∷◌, length, get_or, slice_set, Some, sym, ap, ◌∙◌}
use Rattle.std.proofs.lemmas.List.{get_or-map, get_or_default, set-set}
use Rattle.std.proofs.lemmas.List.Quantifiers.{position-Some}
use Rattle.std.specs.Str.{bytes_eq}
use Rattle.sk_rows.specs.declared.table.Table.{Table}
use Rattle.sk_model.specs.declared.commit.Write.{Write}
use Rattle.sk_model.specs.Database.{KeyedRows, Tables, rows_with, table_of, after_write}
use Rattle.sk_model.specs.Names.{table_at, columns_at}

pub columns_there : (catalog : List Table) (number : ℕ) (table : Table) → number < length catalog → table ≡ get_or catalog number table → columns_at catalog number ≡ table.columns
columns_there catalog number table within is = get_or-map (λ (t : Table). t.columns) catalog number table [] within ∙ ap (λ (t : Table). t.columns) (sym is)

pub table_within : (catalog : List Table) (name : List ℕ) (number : ℕ) → table_at catalog name ≡ Some number → number < length catalog
table_within [] name number found = absurd cc
table_within (t ∷ ts) name number found = (position-Some (λ (x : Table). bytes_eq x.name name) (t ∷ ts) number t found).0

-- a table that was taken out and put back with the write
pub written_at : (db : Tables) (w : Write) (seen rows out new : KeyedRows) → w.table < length db → seen ≡ get_or db w.table seen → rows ≡ seen → new ≡ rows_with rows w.key w.row
    → slice_set (slice_set db w.table out) w.table new ≡ after_write db w
written_at db w seen rows out new within is taken made =
    let there : rows ≡ table_of db w.table = taken ∙ is ∙ get_or_default db w.table seen [] within in
    set-set db w.table out new ∙ ap (λ (r : KeyedRows). slice_set db w.table r) (made ∙ ap (λ (r : KeyedRows). rows_with r w.key w.row) there)
