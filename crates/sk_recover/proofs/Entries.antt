-- Tables as ordered maps: a map's entries as a finite map's, and what writes and commits make of them.
use Rattle.std.specs.Prelude.{◌≡◌, ℕ, ◌<◌, List, [], ◌∷◌, ◌++◌, Option, Bool, true, false, cond, not, length, slice_index_or, slice_set}
use Rattle.std.proofs.Common.{refl, sym, ap, ◌∙◌}
use Rattle.std.specs.declared.cmp.Ordering.{Ordering}
use Rattle.std.specs.declared.cmp.Ordering.TheVariants.{Less, Equal, Greater}
use Rattle.std.specs.Cmp.{IsTotalOrder, Equal-is}
use Rattle.std.specs.Ordering.{is_eq, eq_by_cmp, match_ordering}
use Rattle.std.specs.List.{AllByRecursion}
use Rattle.std.specs.List.Sorted.{IsStrictlySortedBy}
use Rattle.std.specs.Map.{remove_entry, keys_of}
use Rattle.std.specs.BTreeMap.{insert_entry, is_at}
use Rattle.std.specs.FinMap.{put}
use Rattle.std.specs.FinMap.Entries.{where_key, by_order}
use Rattle.std.specs.BTreeMap.{BTreeMap}
use Rattle.std.proofs.lemmas.List.{get_or-map, map-set}
use Rattle.sk_rows.specs.declared.value.Value.{Value}
use Rattle.sk_model.specs.declared.commit.Commit.{Commit}
use Rattle.sk_model.specs.Database.{RowOf, KeyedRows, Tables, rows_with, table_of, after_write, after_commit, state}
use Rattle.sk_recover.specs.Maps.{entries_of}

ordered_is : {A : Type 0} (o : Ordering) (a b c d : A) → c ≡ d → match_ordering o a b c ≡ by_order o a b d
ordered_is Less a b c d e = refl
ordered_is Equal a b c d e = refl
ordered_is Greater a b c d e = e

module _ {K X : Type 0} (R : K → K → Ordering) where
  pub put_is : (k : K) (x : X) (es : List (K × X)) → insert_entry R es k x ≡ put R k x es
  put_is k x [] = refl
  put_is k x (e ∷ es) = ordered_is (R k e.0) _ _ _ _ (ap (λ fs. e ∷ fs) (put_is k x es))

  -- where a key ties with the one before these, it ties with none of them
  none_tied : IsTotalOrder R → (k : K) (e : K) → R k e ≡ Equal → (es : List (K × X)) → AllByRecursion (λ y. R e y ≡ Less) (keys_of es) → where_key R (λ x. not (eq_by_cmp R k x)) es ≡ es
  none_tied total k e tie [] less = refl
  none_tied total k e tie (f ∷ es) less =
      let unlike : not (eq_by_cmp R k f.0) ≡ true = ap (λ o. not (is_eq o)) (total.congr k e f.0 tie ∙ less.0) in
      rw unlike (ap (λ fs. f ∷ fs) (none_tied total k e tie es less.1))

  removed_by : IsTotalOrder R → (k : K) (e : K × X) (es : List (K × X)) (b : Bool) → is_eq (R k e.0) ≡ b → AllByRecursion (λ y. R e.0 y ≡ Less) (keys_of es)
      → remove_entry (is_at (R k)) es ≡ where_key R (λ x. not (eq_by_cmp R k x)) es
      → cond b es (e ∷ remove_entry (is_at (R k)) es) ≡ cond (not b) (e ∷ where_key R (λ x. not (eq_by_cmp R k x)) es) (where_key R (λ x. not (eq_by_cmp R k x)) es)
  removed_by total k e es true is less rest = sym (none_tied total k e.0 ((Equal-is (R k e.0)).0 is) es less)
  removed_by total k e es false is less rest = ap (λ fs. e ∷ fs) rest

  -- of entries in order the first that ties is the only one
  pub removed_is : IsTotalOrder R → (k : K) (es : List (K × X)) → IsStrictlySortedBy R (keys_of es) → remove_entry (is_at (R k)) es ≡ where_key R (λ x. not (eq_by_cmp R k x)) es
  unfolding IsStrictlySortedBy
  removed_is total k [] sorted = refl
  removed_is total k (e ∷ es) sorted = removed_by total k e es (is_eq (R k e.0)) refl sorted.0 (removed_is total k es sorted.1)

  -- nothing is removed of nothing
  pub none_removed : (k : K) (es : List (K × X)) → length es ≡ 0 → es ≡ where_key R (λ x. not (eq_by_cmp R k x)) es
  none_removed k [] none = refl
  none_removed k (e ∷ es) none = absurd cc

abbrev entries : BTreeMap Value RowOf → KeyedRows
entries m = m.entries

-- one map more, of a table whose rows it has
pub map_more : (maps : List (BTreeMap Value RowOf)) (m : BTreeMap Value RowOf) (rows : KeyedRows) (more all : Tables) → m.entries ≡ rows → entries_of maps ++ rows ∷ more ≡ all → entries_of (maps ++ m ∷ []) ++ more ≡ all
map_more [] m rows more all is so = ap (λ (r : KeyedRows). r ∷ more) is ∙ so
map_more (n ∷ maps) m rows more all is so = ap (λ (rest : Tables). n.entries ∷ rest) (map_more maps m rows more (entries_of maps ++ rows ∷ more) is refl) ∙ so

-- one row is given a new content
pub set_entries : (maps : List (BTreeMap Value RowOf)) (t : ℕ) (m n : BTreeMap Value RowOf) (key : Value) (row : Option RowOf) → t < length maps → m ≡ slice_index_or maps t m → n.entries ≡ rows_with m.entries key row
    → entries_of (slice_set maps t n) ≡ after_write (entries_of maps) (record { table = t; key = key; row = row })
set_entries maps t m n key row inside is made =
    let there : table_of (entries_of maps) t ≡ m.entries = get_or-map entries maps t m [] inside ∙ ap entries (sym is) in
    map-set entries maps t n ∙ ap (λ (rows : KeyedRows). slice_set (entries_of maps) t rows) (made ∙ ap (λ (rows : KeyedRows). rows_with rows key row) (sym there))

-- the commits of one list and then those of another
pub both_states : (opening : Tables) (one two : List Commit) → state opening (one ++ two) ≡ state (state opening one) two
both_states opening [] two = refl
both_states opening (c ∷ one) two = both_states (after_commit opening c) one two
