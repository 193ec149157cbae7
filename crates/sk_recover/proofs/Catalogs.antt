-- Tables that are read are such as a catalog takes.
use Rattle.std.proofs.Common.{◌≡◌, ℕ, ◌+◌, ◌≤◌, ◌<◌, true, false, not, ◌&&◌, List, [], ◌∷◌, ◌++◌, length, length-append, None, refl, sym, ◌∙◌, arith}
use Rattle.std.specs.Str.{bytes_eq}
use Rattle.std.proofs.lemmas.Bool.{and_parts, or_parts, not-true, le-leb, lt-leb, false_from_ne_true}
use Rattle.std.proofs.lemmas.List.Folds.{list_any-append}
use Rattle.std.proofs.lemmas.Slice.Eq.{bytes_eq-Decides}
use Rattle.sk_rows.specs.declared.table.Column.{Column}
use Rattle.sk_rows.specs.declared.table.Table.{Table}
use Rattle.sk_rows.specs.Catalog.{add_fault, are_columns, are_named, has_bool_key, has_column, has_table, is_bool}
use Rattle.sk_rows.specs.Names.{is_name}
use Rattle.sk_log.specs.Images.{is_none}
use Rattle.sk_recover.specs.Taking.{IsNewColumn, AreGood, IsNewTable}

-- two texts differ in either order
unlike : (a b : List ℕ) → bytes_eq a b ≡ false → bytes_eq b a ≡ false
unlike a b e = false_from_ne_true (bytes_eq b a) (λ same.
    let equal : b ≡ a = (bytes_eq-Decides b a).0 same in
    let other : bytes_eq a b ≡ true = (bytes_eq-Decides a b).1 (sym equal) in
    absurd cc)

-- one more column, whose name differs from those before it
named_more : (cs : List Column) (c : Column) → is_name c.name ≡ true → has_column c.name cs ≡ false → are_named cs ≡ true → are_named (cs ++ c ∷ []) ≡ true
named_more [] c good alone so = rw good refl
named_more (d ∷ cs) c good alone so =
    let differs = or_parts (bytes_eq d.name c.name) (has_column c.name cs) alone in
    let parts = and_parts (is_name d.name && not (has_column d.name cs)) (are_named cs) so in
    let front = and_parts (is_name d.name) (not (has_column d.name cs)) parts.0 in
    let others : has_column d.name cs ≡ false = not-true (has_column d.name cs) front.1 in
    let last : bytes_eq c.name d.name ≡ false = unlike d.name c.name differs.0 in
    let all : has_column d.name (cs ++ c ∷ []) ≡ false = list_any-append (λ (x : Column). bytes_eq x.name d.name) cs (c ∷ []) ∙ rw (others, last) refl in
    let rest : are_named (cs ++ c ∷ []) ≡ true = named_more cs c good differs.1 parts.1 in
    rw (front.0, all, rest) refl

key_more : (cs : List Column) (c : Column) → has_bool_key cs ≡ false → (is_none cs ≡ true → is_bool c.sort ≡ false) → has_bool_key (cs ++ c ∷ []) ≡ false
unfolding has_bool_key
key_more [] c so first = first refl
key_more (d ∷ cs) c so first = so

pub good_none : AreGood 0 []
unfolding has_bool_key
good_none = record { counted = refl; named = refl; key = refl }

pub good_more : (n : ℕ) (cs : List Column) (c : Column) → AreGood n cs → IsNewColumn cs c → AreGood (n + 1) (cs ++ c ∷ [])
good_more n cs c good new = record {
  counted = omega (arith, good.counted, length-append cs (c ∷ []));
  named = named_more cs c new.good new.alone good.named;
  key = key_more cs c good.key new.key;
}

-- 1 to 16 good columns under a new name make a new table
pub new_table : (before : List Table) (t : Table) (n : ℕ) → is_name t.name ≡ true → has_table t.name before ≡ false → 1 ≤ n → n ≤ 16 → AreGood n t.columns → IsNewTable before t
unfolding are_columns
new_table before t n good alone least most columns =
    let low : 1 ≤ length t.columns = omega (arith, least, columns.counted) in
    let high : length t.columns ≤ 16 = omega (arith, most, columns.counted) in
    record {
      good = good;
      alone = alone;
      columns = rw (le-leb 1 (length t.columns) low, le-leb (length t.columns) 16 high, columns.named) refl;
      key = columns.key;
    }

-- the catalog of the tables before it takes it
pub taken : (before : List Table) (t : Table) → IsNewTable before t → length before < 64 → add_fault before t ≡ None
unfolding add_fault
taken before t new few = rw (new.good, new.alone, new.columns, new.key, lt-leb 64 (length before) few) refl
