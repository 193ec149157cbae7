-- Rows that are read of an image fit their tables.
use Rattle.std.proofs.Common.{◌≡◌, ℕ, zero, suc, ◌-◌, ◌≤◌, Bool, true, false, not, ltb, cond, List, [], ◌∷◌, ◌++◌, length, sum_by, take, Some, Result, Ok, Err, refl, sym, ap, subst, ◌∙◌, arith}
use Rattle.std.specs.Prelude.{◌&&◌, nat_le}
use Rattle.std.specs.Int.{w16, w64}
use Rattle.std.specs.List.{AllByRecursion, list_all}
use Rattle.std.specs.Ordering.{eq_by_cmp}
use Rattle.std.proofs.lemmas.Bool.{and_from, and_parts, le-leb, leb-true, ltb-false}
use Rattle.std.proofs.lemmas.List.{length-take}
use Rattle.std.proofs.lemmas.List.Sums.{sum_by-cons}
use Rattle.sk_rows.specs.declared.value.Value.{Value}
use Rattle.sk_rows.specs.declared.value.Value.TheVariants as value
use Rattle.sk_rows.specs.declared.value.Sort.{Sort}
use Rattle.sk_rows.specs.declared.value.Sort.TheVariants as sort
use Rattle.sk_rows.specs.declared.table.Column.{Column}
use Rattle.sk_rows.specs.declared.table.Table.{Table}
use Rattle.sk_rows.specs.Catalog.{are_columns, are_named, is_table}
use Rattle.sk_rows.specs.Names.{is_name}
use Rattle.sk_rows.specs.Text.{are_printable}
use Rattle.sk_rows.specs.Typing.{same_sort}
use Rattle.sk_rows.specs.Values.{encoded_len, sort_of, value_cmp}
use Rattle.sk_model.specs.Database.{KeyedRows, RowOf, Tables, table_of}
use Rattle.sk_model.specs.EngineConditions.{are_short, is_short}
use Rattle.sk_model.specs.Replies.{has_room, key_of}
use Rattle.sk_model.specs.Resembling.{RowFits}
use Rattle.sk_model.specs.Sorts.{have_sorts}
use Rattle.sk_model.proofs.Lookups.{tied_itself}
use Rattle.sk_codec.specs.declared.fault.Fault.{Fault}
use Rattle.sk_codec.specs.declared.fault.What.TheVariants as what
use Rattle.sk_codec.specs.Reading.{Rest, ◌>>=◌, bit_at, items_at, number_at, past, wrong}
use Rattle.sk_codec.specs.Rows.{cell_at, cells_at, field_at, int_at, row_at, text_at, truth_at}
use Rattle.sk_codec.proofs.Parts.{bind_ok, guard_ok, ok_is}
use Rattle.sk_log.specs.Images.{Base, all_rows_at, base_at, catalog_at, each_at, is_none, keyed_at, rising_at, rows_at}
use Rattle.sk_log.specs.Stores.{no_rows}
use Rattle.sk_recover.specs.Opened.{AllFit}

-- ---- tools

-- a test that chose this
pub chosen : {A : Type 0} (b : Bool) (x y : A) (d : Fault) → cond b (Ok x) (Err d) ≡ Ok y → x ≡ y
chosen true x y d e = cc
chosen false x y d e = absurd cc

-- and so the test held
pub chosen_by : {A : Type 0} (b : Bool) (x y : A) (d : Fault) → cond b (Ok x) (Err d) ≡ Ok y → b ≡ true
chosen_by true x y d e = refl
chosen_by false x y d e = absurd cc

-- what holds of each item that is read holds of all
pub items_each : {A S : Type 0} (read : S → Rest → Result (A × Rest) Fault) (keep : S → A → S) (P : A → Type 0)
    → ((s : S) (rest : Rest) (x : A × Rest) → read s rest ≡ Ok x → P x.0)
    → (n : ℕ) (s : S) (rest : Rest) (x : List A × Rest) → items_at read keep n s rest ≡ Ok x → AllByRecursion P x.0
unfolding items_at
items_each {A} read keep P law zero s rest x e =
    let none : List A × Rest = ([], rest) in
    subst (λ (y : List A × Rest). AllByRecursion P y.0) (ok_is none x e) tt
items_each {A} read keep P law (suc n) s rest x e =
    let first = bind_ok (read s rest) (λ first. items_at read keep n (keep s first.0) first.1 >>= λ others. Ok (first.0 ∷ others.0, others.1)) x e in
    let others = bind_ok (items_at read keep n (keep s first.0.0) first.0.1) (λ others. Ok (first.0.0 ∷ others.0, others.1)) x first.2 in
    let made : List A × Rest = (first.0.0 ∷ others.0.0, others.0.1) in
    subst (λ (y : List A × Rest). AllByRecursion P y.0) {x = made} (ok_is made x others.2)
    (law s rest first.0 first.1, items_each read keep P law n (keep s first.0.0) first.0.1 others.0 others.1)

-- ---- cells

-- a value of this sort, and not too long
record IsCell (s : Sort) (v : Value) : Type 0 where
  pub sort : same_sort (sort_of v) s ≡ true
  pub short : is_short v ≡ true

int_cell : (rest : Rest) (x : Value × Rest) → int_at rest ≡ Ok x → IsCell sort.Int x.0
unfolding int_at
int_cell rest x e =
    let n = bind_ok (number_at w64 rest) _ _ e in
    subst (λ (y : Value × Rest). IsCell sort.Int y.0) (ok_is _ _ n.2) (record { sort = refl; short = refl })

-- what stands behind the length of a text
abbrev text_behind : Rest → ℕ → Rest → Result (Value × Rest) Fault
text_behind rest n left = cond (ltb (length left.bytes) n) (Err (wrong what.Length rest)) (cond (not (are_printable (take n left.bytes))) (Err (wrong what.Range rest)) (Ok (value.Text (take n left.bytes), past n left)))

text_long : (rest : Rest) (n : ℕ) (left : Rest) (x : Value × Rest) → text_behind rest n left ≡ Ok x → (value.Text (take n left.bytes), past n left) ≡ x
text_long rest n left x e =
    let long = guard_ok (ltb (length left.bytes) n) (wrong what.Length rest) (cond (not (are_printable (take n left.bytes))) (Err (wrong what.Range rest)) (Ok (value.Text (take n left.bytes), past n left))) x e in
    let printed = guard_ok (not (are_printable (take n left.bytes))) (wrong what.Range rest) (Ok (value.Text (take n left.bytes), past n left)) x long.1 in
    ok_is (value.Text (take n left.bytes), past n left) x printed.1

text_cell : (rest : Rest) (x : Value × Rest) → text_at rest ≡ Ok x → IsCell sort.Text x.0
unfolding text_at
text_cell rest x e =
    let n = bind_ok (number_at w16 rest) (λ n. cond (ltb 255 n.0) (Err (wrong what.Range rest)) (text_behind rest n.0 n.1)) x e in
    let few = guard_ok (ltb 255 n.0.0) (wrong what.Range rest) (text_behind rest n.0.0 n.0.1) x n.2 in
    let text = take n.0.0 n.0.1.bytes in
    let least : n.0.0 ≤ 255 = ltb-false _ _ few.0 in
    let size : length text ≤ 255 = omega (arith, least, length-take n.0.0 n.0.1.bytes) in
    subst (λ (y : Value × Rest). IsCell sort.Text y.0) (text_long rest n.0.0 n.0.1 x few.1) (record { sort = refl; short = le-leb (length text) 255 size })

truth_cell : (rest : Rest) (x : Value × Rest) → truth_at rest ≡ Ok x → IsCell sort.Bool x.0
unfolding truth_at
truth_cell rest x e =
    let b = bind_ok (bit_at rest) _ _ e in
    subst (λ (y : Value × Rest). IsCell sort.Bool y.0) (ok_is _ _ b.2) (record { sort = refl; short = refl })

field_cell : (s : Sort) (rest : Rest) (x : Value × Rest) → field_at s rest ≡ Ok x → IsCell s x.0
field_cell sort.Int = int_cell
field_cell sort.Text = text_cell
field_cell sort.Bool = truth_cell

-- a value that was read within this room
record IsReadCell (s : Sort) (room : ℕ) (rest : Rest) (x : Value × Rest) : Type 0 where
  pub read : field_at s rest ≡ Ok x
  pub within : encoded_len x.0 ≤ room

read_cell : (s : Sort) (room : ℕ) (rest : Rest) (x : Value × Rest) → cell_at s room rest ≡ Ok x → IsReadCell s room rest x
unfolding cell_at
read_cell s room rest x e =
    let y = bind_ok (field_at s rest) _ _ e in
    let g = guard_ok _ _ _ _ y.2 in
    let within : encoded_len y.0.0 ≤ room = ltb-false _ _ g.0 in
    subst (λ (z : Value × Rest). IsReadCell s room rest z) (ok_is _ _ g.1) (record { read = y.1; within = within })

-- ---- rows

-- one value a column, each of its sort, none too long, and all within this room
pub record AreCells (columns : List Column) (room : ℕ) (row : List Value) : Type 0 where
  pub sorts : have_sorts row columns ≡ true
  pub short : are_short row ≡ true
  pub within : sum_by encoded_len row ≤ room

pub cells_are : (columns : List Column) (room : ℕ) (rest : Rest) (x : List Value × Rest) → cells_at columns room rest ≡ Ok x → AreCells columns room x.0
unfolding cells_at
cells_are [] room rest x e =
    let none : List Value × Rest = ([], rest) in
    subst (λ (y : List Value × Rest). AreCells [] room y.0) (ok_is none x e) (record { sorts = refl; short = refl; within = omega arith })
cells_are (c ∷ cs) room rest x e =
    let v = bind_ok (cell_at c.sort room rest) (λ v. cells_at cs (room - encoded_len v.0) v.1 >>= λ vs. Ok (v.0 ∷ vs.0, vs.1)) x e in
    let vs = bind_ok (cells_at cs (room - encoded_len v.0.0) v.0.1) (λ vs. Ok (v.0.0 ∷ vs.0, vs.1)) x v.2 in
    let first = read_cell c.sort room rest v.0 v.1 in
    let cell = field_cell c.sort rest v.0 first.read in
    let others = cells_are cs (room - encoded_len v.0.0) v.0.1 vs.0 vs.1 in
    let made : List Value × Rest = (v.0.0 ∷ vs.0.0, vs.0.1) in
    subst (λ (y : List Value × Rest). AreCells (c ∷ cs) room y.0) (ok_is made x vs.2) (record {
      sorts = and_from _ _ cell.sort others.sorts;
      short = and_from _ _ cell.short others.short;
      within = rw (sum_by-cons encoded_len v.0.0 vs.0.0) (omega (arith, first.within, others.within));
    })

-- the row fits these columns, and begins with the key
abbrev pub fits_columns : List Column → Value → RowOf → Bool
fits_columns columns key row = have_sorts row columns && (are_short row && (has_room row && eq_by_cmp value_cmp key (key_of row)))

pub cells_fit : (columns : List Column) (key : Value) (row : RowOf) → AreCells columns 1024 row → eq_by_cmp value_cmp key (key_of row) ≡ true → fits_columns columns key row ≡ true
cells_fit columns key row are tied = and_from _ _ are.sorts (and_from _ _ are.short (and_from _ _ (le-leb (sum_by encoded_len row) 1024 are.within) tied))

-- a row begins with the value that is read where it stands
head_is : (c : Column) (cs : List Column) (rest : Rest) (key : Value × Rest) (row : List Value × Rest) → field_at c.sort rest ≡ Ok key → row_at (c ∷ cs) rest ≡ Ok row → key.0 ≡ key_of row.0
unfolding cells_at
head_is c cs rest key row read e =
    let v = bind_ok (cell_at c.sort 1024 rest) (λ v. cells_at cs (1024 - encoded_len v.0) v.1 >>= λ vs. Ok (v.0 ∷ vs.0, vs.1)) row e in
    let vs = bind_ok (cells_at cs (1024 - encoded_len v.0.0) v.0.1) (λ vs. Ok (v.0.0 ∷ vs.0, vs.1)) row v.2 in
    let first = read_cell c.sort 1024 rest v.0 v.1 in
    let same : key ≡ v.0 = ok_is _ _ (sym read ∙ first.read) in
    let made : List Value × Rest = (v.0.0 ∷ vs.0.0, vs.0.1) in
    subst (λ (y : List Value × Rest). key.0 ≡ key_of y.0) (ok_is made row vs.2) (ap (λ (y : Value × Rest). y.0) same)

keyed_fits : (columns : List Column) → is_none columns ≡ false → (before : List (Value × List Value)) (rest : Rest) (x : (Value × List Value) × Rest) → keyed_at columns before rest ≡ Ok x → fits_columns columns x.0.0 x.0.1 ≡ true
unfolding keyed_at rising_at
keyed_fits [] some before rest x e = absurd cc
keyed_fits (c ∷ cs) some before rest x e =
    let key = bind_ok (rising_at (c ∷ cs) before rest) _ _ e in
    let row = bind_ok (row_at (c ∷ cs) rest) _ _ key.2 in
    let field = bind_ok (field_at c.sort rest) _ _ key.1 in
    let same : field.0 ≡ key.0 = chosen _ _ _ _ field.2 in
    let head : key.0.0 ≡ key_of row.0.0 = head_is c cs rest key.0 row.0 (field.1 ∙ ap (λ (y : Value × Rest). Ok y) same) row.1 in
    let tied : eq_by_cmp value_cmp key.0.0 (key_of row.0.0) ≡ true = ap (λ (k : Value). eq_by_cmp value_cmp k (key_of row.0.0)) head ∙ tied_itself (key_of row.0.0) in
    subst (λ (y : (Value × List Value) × Rest). fits_columns (c ∷ cs) y.0.0 y.0.1 ≡ true) (ok_is _ _ row.2) (cells_fit (c ∷ cs) key.0.0 row.0.0 (cells_are (c ∷ cs) 1024 rest row.0 row.1) tied)

-- each of these rows fits these columns
abbrev RowsFitColumns : List Column → KeyedRows → Type 0
RowsFitColumns columns rows = AllByRecursion (λ (r : Value × RowOf). fits_columns columns r.0 r.1 ≡ true) rows

rows_fit : (columns : List Column) (rest : Rest) (x : KeyedRows × Rest) → is_none columns ≡ false → rows_at columns rest ≡ Ok x → RowsFitColumns columns x.0
unfolding rows_at
rows_fit columns rest x some e =
    let n = bind_ok (number_at _ rest) _ _ e in
    items_each (keyed_at columns) (λ before row. before ++ row ∷ []) (λ r. fits_columns columns r.0 r.1 ≡ true) (keyed_fits columns some) n.0.0 [] n.0.1 x n.2

-- ---- tables

some_columns : (t : Table) → is_table t ≡ true → is_none t.columns ≡ false
unfolding is_table are_columns
some_columns t good =
    let named = and_parts (is_name t.name && are_columns t.columns) _ good in
    let columns = and_parts (is_name t.name) (are_columns t.columns) named.0 in
    let count = and_parts (nat_le 1 (length t.columns) && nat_le (length t.columns) 16) (are_named t.columns) columns.1 in
    let least = and_parts (nat_le 1 (length t.columns)) (nat_le (length t.columns) 16) count.0 in
    by_length t.columns (leb-true 1 (length t.columns) least.0)
  where
    by_length : (cs : List Column) → 1 ≤ length cs → is_none cs ≡ false
    by_length [] some = absurd (omega (arith, some))
    by_length (c ∷ cs) some = refl

-- the rows of one table before those of others
fit_more : (table : Table) (tables : List Table) (rows : KeyedRows) (db : Tables) → RowsFitColumns table.columns rows → AllFit tables db → AllFit (table ∷ tables) (rows ∷ db)
fit_more table tables rows db here others zero = here
fit_more table tables rows db here others (suc t) = others t

all_rows_fit : (tables : List Table) (rest : Rest) (x : Tables × Rest) → list_all is_table tables ≡ true → all_rows_at tables rest ≡ Ok x → AllFit tables x.0
unfolding each_at
all_rows_fit [] rest x good e =
    let none : Tables × Rest = ([], rest) in
    subst (λ (y : Tables × Rest). AllFit [] y.0) (ok_is none x e) (λ t. tt)
all_rows_fit (t ∷ ts) rest x good e =
    let g = and_parts (is_table t) (list_all is_table ts) good in
    let first = bind_ok (rows_at t.columns rest) (λ first. all_rows_at ts first.1 >>= λ others. Ok (first.0 ∷ others.0, others.1)) x e in
    let others = bind_ok (all_rows_at ts first.0.1) (λ others. Ok (first.0.0 ∷ others.0, others.1)) x first.2 in
    let made : Tables × Rest = (first.0.0 ∷ others.0.0, others.0.1) in
    subst (λ (y : Tables × Rest). AllFit (t ∷ ts) y.0) (ok_is made x others.2)
    (fit_more t ts first.0.0 others.0.0 (rows_fit t.columns rest first.0 (some_columns t g.0) first.1) (all_rows_fit ts first.0.1 others.0 g.1 others.1))

-- the rows of an image
pub base_fits : (file : ℕ) (bytes : List ℕ) (size : ℕ) (b : Base) → base_at file bytes size ≡ Ok b → list_all is_table b.catalog ≡ true → AllFit b.catalog b.rows
unfolding base_at
base_fits file bytes size b e =
    let catalog = bind_ok (catalog_at (record { file = file; place = 0; bytes = take size bytes })) _ _ e in
    let rows = bind_ok (all_rows_at catalog.0.0 catalog.0.1) _ _ catalog.2 in
    let is = chosen _ _ _ _ rows.2 in
    subst (λ (c : Base). list_all is_table c.catalog ≡ true → AllFit c.catalog c.rows) is (λ good. all_rows_fit catalog.0.0 catalog.0.1 rows.0 good rows.1)

-- a new store has none
none_there : (tables : List Table) (t : ℕ) → table_of (no_rows tables) t ≡ []
none_there [] t = refl
none_there (table ∷ tables) zero = refl
none_there (table ∷ tables) (suc t) = none_there tables t

pub none_fit : (catalog tables : List Table) → AllFit catalog (no_rows tables)
none_fit catalog tables t = subst (λ (rows : KeyedRows). AllByRecursion (λ (r : Value × RowOf). RowFits catalog t r.0 (Some r.1)) rows) (sym (none_there tables t)) tt
