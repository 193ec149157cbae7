-- What the tables of a catalog are.
use Rattle.std.proofs.Common.{◌≡◌, ◌<◌, Bool, true, false, cond, not, ◌&&◌, ◌||◌, List, [], ◌∷◌, ◌++◌, append_assoc, append-nil, length, length-append, Option, Some, None, refl, sym, ap, ◌∙◌, arith, nat_le}
use Rattle.std.specs.List.{list_all}
use Rattle.std.proofs.lemmas.Bool.{and_parts, leb-false, lt-leb, not-true, not-false, or_parts}
use Rattle.std.proofs.lemmas.List.Folds.{list_all-append}
use Rattle.sk_rows.specs.declared.catalog.CatalogFault.{CatalogFault}
use Rattle.sk_rows.specs.declared.catalog.CatalogFault.TheVariants.{Name, Columns, KeyColumn, TooMany}
use Rattle.sk_rows.specs.declared.table.Table.{Table}
use Rattle.sk_rows.specs.Names.{is_name}
use Rattle.sk_rows.specs.Catalog.{IsCatalog, add_fault, are_columns, are_unlike, has_bool_key, has_table, is_table}

passed : (wrong : Bool) (fault : CatalogFault) (rest : Option CatalogFault) → cond wrong (Some fault) rest ≡ None → rest ≡ None
passed true fault rest e = absurd cc
passed false fault rest e = e

refused : (wrong : Bool) (fault : CatalogFault) (rest : Option CatalogFault) → cond wrong (Some fault) rest ≡ None → wrong ≡ false
refused true fault rest e = absurd cc
refused false fault rest e = refl

-- what a table that is taken is, and what the tables before it are
record Taken (tables : List Table) (t : Table) : Type 0 where
  named : is_name t.name ≡ true
  alone : has_table t.name tables ≡ false
  columns : are_columns t.columns ≡ true
  key : has_bool_key t.columns ≡ false
  few : length tables < 64

taken : (tables : List Table) (t : Table) → add_fault tables t ≡ None → Taken tables t
unfolding add_fault
taken tables t e =
    let full = nat_le 64 (length tables) in
    let last = cond full (Some TooMany) None in
    let key = cond (has_bool_key t.columns) (Some KeyColumn) last in
    let columns = cond (not (are_columns t.columns)) (Some Columns) key in
    let bad_name = not (is_name t.name) || has_table t.name tables in
    let past_name : columns ≡ None = passed bad_name Name columns e in
    let past_columns : key ≡ None = passed (not (are_columns t.columns)) Columns key past_name in
    let past_key : last ≡ None = passed (has_bool_key t.columns) KeyColumn last past_columns in
    let name = or_parts (not (is_name t.name)) (has_table t.name tables) (refused bad_name Name columns e) in
    record {
      named = not-false (is_name t.name) name.0;
      alone = name.1;
      columns = not-false (are_columns t.columns) (refused (not (are_columns t.columns)) Columns key past_name);
      key = refused (has_bool_key t.columns) KeyColumn last past_columns;
      few = leb-false 64 (length tables) (refused full TooMany None past_key);
    }

regroup : (a b c : Bool) → (a && (b && c)) ≡ ((a && b) && c)
regroup true b c = refl
regroup false b c = refl

unlike-append : (before a b : List Table) → are_unlike before (a ++ b) ≡ (are_unlike before a && are_unlike (before ++ a) b)
unlike-append before [] b = ap (λ l. are_unlike l b) (sym (append-nil before))
unlike-append before (t ∷ a) b =
    let new = not (has_table t.name before) in
    let front = are_unlike (before ++ t ∷ []) a in
    let rest = ap (λ l. are_unlike l b) (append_assoc before (t ∷ []) a) in
    ap (λ x. new && x) (unlike-append (before ++ t ∷ []) a b ∙ ap (λ x. front && x) rest) ∙ regroup new front _

-- a catalog stays one with a table that it takes
pub catalog_more : (tables : List Table) (t : Table) → IsCatalog tables → add_fault tables t ≡ None → IsCatalog (tables ++ t ∷ [])
unfolding is_table
catalog_more tables t is e =
    let new = taken tables t e in
    record {
      few = omega (arith, new.few, length-append tables (t ∷ []));
      good = list_all-append is_table tables (t ∷ []) ∙ rw (is.good, new.named, new.columns, new.key) refl;
      unlike = unlike-append [] tables (t ∷ []) ∙ rw (is.unlike, new.alone) refl;
    }

-- each table of a catalog is one that the tables before it take
pub catalog_took : (before : List Table) (t : Table) (after : List Table) → IsCatalog (before ++ t ∷ after) → add_fault before t ≡ None
unfolding is_table add_fault
catalog_took before t after is =
    let all = and_parts (list_all is_table before) (list_all is_table (t ∷ after)) (sym (list_all-append is_table before (t ∷ after)) ∙ is.good) in
    let here = and_parts (is_table t) (list_all is_table after) all.1 in
    let parts = and_parts (is_name t.name && are_columns t.columns) (not (has_bool_key t.columns)) here.0 in
    let front = and_parts (is_name t.name) (are_columns t.columns) parts.0 in
    let key = not-true (has_bool_key t.columns) parts.1 in
    let unlike = and_parts (are_unlike [] before) (are_unlike before (t ∷ after)) (sym (unlike-append [] before (t ∷ after)) ∙ is.unlike) in
    let first = and_parts (not (has_table t.name before)) (are_unlike (before ++ t ∷ []) after) unlike.1 in
    let alone = not-true (has_table t.name before) first.0 in
    let few : length before < 64 = omega (arith, is.few, length-append before (t ∷ after)) in
    rw (front.0, alone, front.1, key, lt-leb 64 (length before) few) refl
