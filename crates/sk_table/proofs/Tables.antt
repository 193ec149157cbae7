-- One of several tables, and the tables with another one in its place.
use Rattle.std.specs.Prelude.{◌≡◌, ℕ, zero, suc, ◌<◌, ◌≤◌, [], ◌∷◌, Some, None, length, slice_get, slice_index_or, slice_set}
use Rattle.std.proofs.Common.{refl, sym, ap, ◌∙◌, arith}
use Rattle.std.specs.List.{insert, remove}
use Rattle.sk_model.specs.declared.commit.Write.{Write}
use Rattle.sk_model.specs.Database.{KeyedRows, Tables, table_of, rows_with, after_write}
use Rattle.sk_model.proofs.Listed.{some_is, none_some}

pub none_there : (db : Tables) (t : ℕ) → None ≡ slice_get db t → table_of db t ≡ []
none_there [] t is = refl
none_there (rows ∷ db) zero is = none_some is
none_there (rows ∷ db) (suc t) is = none_there db t is

pub one_there : (db : Tables) (t : ℕ) (rows : KeyedRows) → Some rows ≡ slice_get db t → table_of db t ≡ rows
one_there [] t rows is = none_some (sym is)
one_there (x ∷ db) zero rows is = some_is (sym is)
one_there (x ∷ db) (suc t) rows is = one_there db t rows is

set_back : (db : Tables) (t : ℕ) (rows : KeyedRows) → t < length db → insert (remove db t) t rows ≡ slice_set db t rows
set_back [] t rows within = absurd (omega arith)
set_back (x ∷ db) zero rows within = refl
set_back (x ∷ db) (suc t) rows within = ap (λ (ts : Tables). x ∷ ts) (set_back db t rows (omega arith))

pub past_all : (db : Tables) (w : Write) → length db ≤ w.table → after_write db w ≡ db
past_all db w past = go db w.table (rows_with (table_of db w.table) w.key w.row) past
  where
    go : (ts : Tables) (t : ℕ) (rows : KeyedRows) → length ts ≤ t → slice_set ts t rows ≡ ts
    go [] t rows le = refl
    go (x ∷ ts) zero rows le = absurd (omega arith)
    go (x ∷ ts) (suc t) rows le = ap (λ (us : Tables). x ∷ us) (go ts t rows (omega arith))

there : (db : Tables) (t : ℕ) (x d : KeyedRows) → t < length db → x ≡ slice_index_or db t x → slice_index_or db t d ≡ x
there [] t x d within is = absurd (omega arith)
there (y ∷ db) zero x d within is = sym is
there (y ∷ db) (suc t) x d within is = there db t x d (omega arith) is

-- a table is taken out, and comes back as the write leaves it
pub written : (db : Tables) (w : Write) (old made : KeyedRows) (rest all : Tables) → w.table < length db → old ≡ slice_index_or db w.table old → made ≡ rows_with old w.key w.row
    → rest ≡ remove db w.table → all ≡ insert rest w.table made → all ≡ after_write db w
written db w old made rest all within found makes without with_it =
    with_it ∙ ap (λ (ts : Tables). insert ts w.table made) without ∙ set_back db w.table made within
    ∙ ap (λ (rows : KeyedRows). slice_set db w.table rows) (makes ∙ ap (λ (rows : KeyedRows). rows_with rows w.key w.row) (sym (there db w.table old [] within found)))
