-- The rows of commits that are read of the logs fit their tables.
use Rattle.std.proofs.Common.{◌≡◌, ℕ, Bool, true, false, List, [], ◌∷◌, Option, Some, None, Ok, subst}
use Rattle.std.specs.Ordering.{eq_by_cmp}
use Rattle.sk_rows.specs.declared.value.Value.{Value}
use Rattle.sk_rows.specs.declared.value.Value.TheVariants as value
use Rattle.sk_rows.specs.declared.table.Column.{Column}
use Rattle.sk_rows.specs.declared.table.Table.{Table}
use Rattle.sk_rows.specs.Values.{value_cmp}
use Rattle.sk_model.specs.declared.commit.Write.{Write}
use Rattle.sk_model.specs.Database.{RowOf}
use Rattle.sk_model.specs.Names.{columns_at}
use Rattle.sk_model.specs.Replies as replies
use Rattle.sk_model.specs.Resembling.{RowFits}
use Rattle.sk_model.proofs.Lookups.{tied_itself}
use Rattle.sk_codec.specs.Reading.{Rest, bit_at}
use Rattle.sk_codec.specs.Records.{content_at, key_of, key_sort, table_at, write_at}
use Rattle.sk_codec.specs.Rows.{field_at, row_at}
use Rattle.sk_codec.proofs.Parts.{bind_ok, ok_is}
use Rattle.sk_log.specs.Stores.{LogPosition, turns}
use Rattle.sk_recover.proofs.RowsFit.{cells_are, cells_fit, fits_columns}
use Rattle.sk_recover.proofs.LogsRead.{CommitsHave, table_is, turns_have}

-- ---- writes

-- a row that is written fits these columns and begins with its key
abbrev ContentFits : List Column → Value → Option RowOf → Type 0
ContentFits columns key None = Unit {0}
ContentFits columns key (Some row) = fits_columns columns key row ≡ true

own_key : (row : RowOf) → eq_by_cmp value_cmp (key_of row) (replies.key_of row) ≡ true
own_key [] = tied_itself (value.Bool false)
own_key (v ∷ vs) = tied_itself v

content_fits : (columns : List Column) (is_row : Bool) (rest : Rest) (x : (Value × Option RowOf) × Rest) → content_at columns is_row rest ≡ Ok x → ContentFits columns x.0.0 x.0.1
unfolding content_at
content_fits columns true rest x e =
    let row = bind_ok (row_at columns rest) (λ row. Ok ((key_of row.0, Some row.0), row.1)) x e in
    let read : (Value × Option RowOf) × Rest = ((key_of row.0.0, Some row.0.0), row.0.1) in
    subst (λ (y : (Value × Option RowOf) × Rest). ContentFits columns y.0.0 y.0.1) (ok_is read x row.2) (cells_fit columns (key_of row.0.0) row.0.0 (cells_are columns 1024 rest row.0 row.1) (own_key row.0.0))
content_fits columns false rest x e =
    let key = bind_ok (field_at (key_sort columns) rest) (λ key. Ok ((key.0, None), key.1)) x e in
    let read : (Value × Option RowOf) × Rest = ((key.0.0, None), key.0.1) in
    subst (λ (y : (Value × Option RowOf) × Rest). ContentFits columns y.0.0 y.0.1) (ok_is read x key.2) tt

row_fits : (tables : List Table) (t : ℕ) (key : Value) (row : Option RowOf) → ContentFits (columns_at tables t) key row → RowFits tables t key row
row_fits tables t key None fits = tt
row_fits tables t key (Some row) fits = fits

-- whichever log it is of
abbrev WriteFits : List Table → Bool → Write → Type 0
WriteFits tables store w = RowFits tables w.table w.key w.row

write_fits : (tables : List Table) (store : Bool) (rest : Rest) (x : Write × Rest) → write_at tables store rest ≡ Ok x → WriteFits tables store x.0
unfolding write_at
write_fits tables store rest x e =
    let t = bind_ok (table_at tables store rest) _ _ e in
    let b = bind_ok (bit_at t.0.1) _ _ t.2 in
    let c = bind_ok (content_at t.0.0.1 b.0.0 b.0.1) _ _ b.2 in
    let fits = subst (λ (cs : List Column). ContentFits cs c.0.0.0 c.0.0.1) (table_is tables store rest t.0 t.1).columns (content_fits t.0.0.1 b.0.0 b.0.1 c.0 c.1) in
    subst (λ (y : Write × Rest). WriteFits tables store y.0) (ok_is _ _ c.2) (row_fits tables t.0.0.0 c.0.0.0 c.0.0.1 fits)

-- ---- commits

-- the commits so far fit
abbrev pub CommitsFit : LogPosition → Type 0
CommitsFit s = CommitsHave WriteFits s

-- of both logs all commits fit
pub turns_fit : (n : ℕ) (one two : List ℕ) (s t : LogPosition) → turns n one two s ≡ Ok t → CommitsFit s → CommitsFit t
turns_fit = turns_have WriteFits write_fits
