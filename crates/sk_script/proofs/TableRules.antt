-- The words of a TABLE line: they are read as a table exactly where the rules make it of them and a catalog takes it.
use Rattle.std.proofs.Common.{◌≡◌, ◌==◌, ℕ, zero, suc, ◌≤◌, ◌<◌, Bool, true, false, cond, not, ◌&&◌, ◌||◌, List, [], ◌∷◌, ◌++◌, length, length-append, map, Some, None, Ok, refl, sym, ap, subst, ◌∙◌, append_assoc, append-nil, arith}
use Rattle.std.specs.Prelude.{nat_lt, nat_le}
use Rattle.std.specs.Str.{bytes_eq}
use Rattle.std.proofs.lemmas.Bool.{and_parts, or_parts, not-true, lt-ltb, leb-true, leb-false}
use Rattle.std.proofs.lemmas.Bool.Decides.{nat_tests}
use Rattle.std.proofs.lemmas.List.{length-map}
use Rattle.std.proofs.lemmas.List.Folds.{list_any-append}
use Rattle.sk_lex.specs.declared.token.Keyword.TheVariants as key
use Rattle.sk_lex.specs.declared.token.Word.{Word}
use Rattle.sk_lex.specs.declared.token.Word.TheVariants as word
use Rattle.sk_rows.specs.declared.catalog.CatalogFault.TheVariants as wrong
use Rattle.sk_rows.specs.declared.table.Column.{Column}
use Rattle.sk_rows.specs.declared.table.Table.{Table}
use Rattle.sk_rows.specs.declared.value.Sort.{Sort}
use Rattle.sk_rows.specs.declared.value.Sort.TheVariants as sorts
use Rattle.sk_rows.specs.Catalog.{add_fault, are_columns, are_named, has_bool_key, has_column, has_table as has_name, is_bool}
use Rattle.sk_rows.specs.Names.{is_name}
use Rattle.sk_lex.specs.Marks as mark
use Rattle.sk_parse.specs.declared.cursor.Sign.TheVariants as sign
use Rattle.sk_parse.specs.Input.{Input, ◌>>=◌, after, and_then, next, pure, refuse, sees, take_some}
use Rattle.sk_parse.specs.Saying.{AreListed, AreMore}
use Rattle.sk_parse.proofs.Sound.{Gave, bind_ok, mark_at, never, same, taken_ok}
use Rattle.sk_script.specs.declared.script.TableLine.{TableLine}
use Rattle.sk_script.specs.Header.{column, column_name, columns, columns_from, ended, engine, engine_of, has_table, is_bool_key, made, named, new_column, new_table, sort, sort_of, table, table_name}
use Rattle.sk_script.specs.Rules.{IsColumn, engine_key, sort_key}
use Rattle.sk_script.proofs.Columns.{unlike}
use Rattle.sk_script.proofs.NewTables.{same_names}
use Rattle.sk_script.proofs.Parts.{kept}

-- ---- what is read stands in the words

column_word : (cs : List Column) (w : Word) (name : List ℕ) → new_column cs w ≡ Some name → w ≡ word.Name name
column_word cs (word.Name t) name e = ap word.Name (kept (is_name t && nat_lt (length cs) 16 && not (has_column t cs)) t name e).1
column_word cs (word.Key k) name e = absurd cc
column_word cs (word.Number n) name e = absurd cc
column_word cs (word.Text t) name e = absurd cc
column_word cs (word.Mark a b) name e = absurd cc

sort_word : (w : Word) (s : Sort) → sort_of w ≡ Some s → w ≡ word.Key (sort_key s)
sort_word (word.Key key.Int) sorts.Int e = refl
sort_word (word.Key key.Text) sorts.Text e = refl
sort_word (word.Key key.Bool) sorts.Bool e = refl
sort_word _ s e = absurd cc

table_word : (tables : List TableLine) (w : Word) (name : List ℕ) → new_table tables w ≡ Some name → w ≡ word.Name name
table_word tables (word.Name t) name e = ap word.Name (kept (is_name t && nat_lt (length tables) 64 && not (has_table t tables)) t name e).1
table_word tables (word.Key k) name e = absurd cc
table_word tables (word.Number n) name e = absurd cc
table_word tables (word.Text t) name e = absurd cc
table_word tables (word.Mark a b) name e = absurd cc

engine_word : (w : Word) (store : Bool) → engine_of w ≡ Some store → w ≡ word.Key (engine_key store)
engine_word (word.Key key.Memory) false e = refl
engine_word (word.Key key.Storage) true e = refl
engine_word _ s e = absurd cc

allowed : (b : Bool) (i j : Input) (x c : Column) (r : Input) → Gave (cond b (λ (left : Input). refuse i) (pure x) j) c r → (x ≡ c) × (j ≡ r)
allowed true i j x c r is = never (length i) c r is
allowed false i j x c r is = same x c j r is

column_words : (cs : List Column) (i r : Input) (c : Column) → Gave (column cs i) c r → (ws : List Word) × (i ≡ ws ++ r) × IsColumn ws c
unfolding column column_name sort
column_words cs i r c is =
    let a = bind_ok (column_name cs i) (λ name. sort >>= (λ s. cond (is_bool_key cs s) (λ rest. refuse i) (pure (named name s)))) c r is in
    let name = taken_ok (new_column cs) i a.0 a.1 a.2 in
    let b = bind_ok (sort a.1) (λ s. cond (is_bool_key cs s) (λ rest. refuse i) (pure (named a.0 s))) c r a.3 in
    let s = taken_ok sort_of a.1 b.0 b.1 b.2 in
    let end = allowed (is_bool_key cs b.0) i b.1 (named a.0 b.0) c r b.3 in
    let words : i ≡ word.Name a.0 ∷ word.Key (sort_key b.0) ∷ r =
    name.1 ∙ ap (λ w. w ∷ a.1) (column_word cs name.0 a.0 name.2)
    ∙ ap (λ z. word.Name a.0 ∷ z) (s.1 ∙ ap (λ w. w ∷ b.1) (sort_word s.0 b.0 s.2) ∙ ap (λ z. word.Key (sort_key b.0) ∷ z) end.1) in
    (word.Name a.0 ∷ word.Key (sort_key b.0) ∷ [], words, subst (IsColumn (word.Name a.0 ∷ word.Key (sort_key b.0) ∷ [])) end.0 refl)

abbrev More : List Column → Input → List Column → Input → Type 0
More found i cs r = (ys : List Column) × (ws : List Word) × (cs ≡ found ++ ys) × (i ≡ ws ++ r) × AreMore IsColumn ws ys

no_more : (found : List Column) (i : Input) (cs : List Column) (r : Input) → Gave (pure found i) cs r → More found i cs r
no_more found i cs r is = let end = same found cs i r is in ([], [], sym end.0 ∙ sym (append-nil found), end.1, refl)

more_words : (n : ℕ) (found : List Column) (i : Input) (cs : List Column) (r : Input) → Gave (columns_from n found i) cs r → More found i cs r
unfolding columns_from after
more_words zero found i cs r is = no_more found i cs r is
more_words (suc n) found i cs r is = by (sees (sign.Mark mark.comma mark.none) i) refl is (more_words n)
  where
    by : (t : Bool) → sees (sign.Mark mark.comma mark.none) i ≡ t
        → Gave (cond t (column found >>= (λ c. columns_from n (found ++ c ∷ []))) (pure found) (cond t (next i) i)) cs r
        → ((longer : List Column) (j : Input) (ys : List Column) (q : Input) → Gave (columns_from n longer j) ys q → More longer j ys q)
        → More found i cs r
    by false at e ih = no_more found i cs r e
    by true at e ih =
        let a = bind_ok (column found (next i)) (λ c. columns_from n (found ++ c ∷ [])) cs r e in
        let item = column_words found (next i) a.1 a.0 a.2 in
        let rest = ih (found ++ a.0 ∷ []) a.1 cs r a.3 in (
          a.0 ∷ rest.0,
          word.Mark mark.comma mark.none ∷ item.0 ++ rest.1,
          rest.2 ∙ append_assoc found (a.0 ∷ []) rest.0,
          mark_at mark.comma mark.none i at ∙ ap (λ z. word.Mark mark.comma mark.none ∷ z) (item.1 ∙ ap (λ z. item.0 ++ z) rest.3 ∙ sym (append_assoc item.0 rest.1 r)),
          (item.0, rest.1, refl, item.2, rest.4),
        )

columns_words : (i r : Input) (cs : List Column) → Gave (columns i) cs r → (ws : List Word) × (i ≡ ws ++ r) × AreListed IsColumn ws cs
unfolding columns
columns_words i r cs is =
    let a = bind_ok (column [] i) (λ c j. columns_from (length j) (c ∷ []) j) cs r is in
    let item = column_words [] i a.1 a.0 a.2 in
    let rest = more_words (length a.1) (a.0 ∷ []) a.1 cs r a.3 in (
      item.0 ++ rest.1,
      item.1 ∙ ap (λ z. item.0 ++ z) rest.3 ∙ sym (append_assoc item.0 rest.1 r),
      subst (AreListed IsColumn (item.0 ++ rest.1)) (sym rest.2) (item.0, rest.1, refl, item.2, rest.4),
    )

-- the words of a table behind TABLE
abbrev pub AreTable : List Word → Table → Type 0
AreTable ws t = (us : List Word) × (ws ≡ word.Name t.name ∷ word.Key (engine_key t.store) ∷ us) × AreListed IsColumn us t.columns

nothing_left : (x : Table) (i : Input) (t : Table) (r : Input) → Gave (ended x i) t r → (x ≡ t) × (i ≡ []) × (r ≡ [])
nothing_left x [] t r is = let end = same x t [] r is in (end.0, refl, sym end.1)
nothing_left x (w ∷ i) t r is = by (suc (length i) == 0) refl is
  where
    by : (b : Bool) → (suc (length i) == 0) ≡ b → Gave (cond b (Ok (x, w ∷ i)) (refuse (w ∷ i))) t r → (x ≡ t) × (w ∷ i ≡ []) × (r ≡ [])
    by true at e = let bad : suc (length i) ≡ 0 = grind (arith, nat_tests) in absurd (omega arith)
    by false at e = never (length (w ∷ i)) t r e

pub table_words : (tables : List TableLine) (i r : Input) (t : Table) → Gave (table tables i) t r → AreTable i t
unfolding table table_name engine
table_words tables i r t is =
    let a = bind_ok (table_name tables i) (λ name. engine >>= (λ store. columns >>= (λ cs. ended (made name store cs)))) t r is in
    let name = taken_ok (new_table tables) i a.0 a.1 a.2 in
    let b = bind_ok (engine a.1) (λ store. columns >>= (λ cs. ended (made a.0 store cs))) t r a.3 in
    let store = taken_ok engine_of a.1 b.0 b.1 b.2 in
    let c = bind_ok (columns b.1) (λ cs. ended (made a.0 b.0 cs)) t r b.3 in
    let cs = columns_words b.1 c.1 c.0 c.2 in
    let end = nothing_left (made a.0 b.0 c.0) c.1 t r c.3 in
    let all : b.1 ≡ cs.0 = cs.1 ∙ ap (λ z. cs.0 ++ z) end.1 ∙ append-nil cs.0 in
    let words : i ≡ word.Name a.0 ∷ word.Key (engine_key b.0) ∷ cs.0 =
    name.1 ∙ ap (λ w. w ∷ a.1) (table_word tables name.0 a.0 name.2)
    ∙ ap (λ z. word.Name a.0 ∷ z) (store.1 ∙ ap (λ w. w ∷ b.1) (engine_word store.0 b.0 store.2) ∙ ap (λ z. word.Key (engine_key b.0) ∷ z) all) in
    subst (AreTable i) end.0 (cs.0, words, cs.2)

-- ---- what stands in the words is read

sort_read : (s : Sort) (r : Input) → Gave (sort (word.Key (sort_key s) ∷ r)) s r
unfolding sort
sort_read sorts.Int r = refl
sort_read sorts.Text r = refl
sort_read sorts.Bool r = refl

engine_read : (store : Bool) (r : Input) → Gave (engine (word.Key (engine_key store) ∷ r)) store r
unfolding engine
engine_read false r = refl
engine_read true r = refl

column_read : (cs : List Column) (c : Column) (r : Input) → is_name c.name ≡ true → length cs < 16 → has_column c.name cs ≡ false → is_bool_key cs c.sort ≡ false
    → Gave (column cs (word.Name c.name ∷ word.Key (sort_key c.sort) ∷ r)) c r
unfolding column column_name
column_read cs c r good few alone key_fits =
    let i : Input = word.Name c.name ∷ word.Key (sort_key c.sort) ∷ r in
    let f = λ (name : List ℕ). sort >>= (λ s. cond (is_bool_key cs s) (λ rest. refuse i) (pure (named name s))) in
    let test : (is_name c.name && nat_lt (length cs) 16 && not (has_column c.name cs)) ≡ true = rw (good, lt-ltb (length cs) 16 few, alone) refl in
    ap (λ b. and_then (take_some (cond b (Some c.name) None) i) f) test
    ∙ ap (λ o. and_then o (λ s. cond (is_bool_key cs s) (λ rest. refuse i) (pure (named c.name s)))) (sort_read c.sort r)
    ∙ ap (λ b. cond b (λ (rest : Input). refuse i) (pure (named c.name c.sort)) r) key_fits

-- a column among others with names that differ
named_at : (found : List Column) (c : Column) (cs : List Column) → are_named (found ++ c ∷ cs) ≡ true → (is_name c.name ≡ true) × (has_column c.name found ≡ false)
named_at [] c cs all =
    let parts = and_parts (is_name c.name && not (has_column c.name cs)) (are_named cs) all in
    ((and_parts (is_name c.name) (not (has_column c.name cs)) parts.0).0, refl)
named_at (d ∷ found) c cs all =
    let parts = and_parts (is_name d.name && not (has_column d.name (found ++ c ∷ cs))) (are_named (found ++ c ∷ cs)) all in
    let rest = named_at found c cs parts.1 in
    let alone = not-true (has_column d.name (found ++ c ∷ cs)) (and_parts (is_name d.name) (not (has_column d.name (found ++ c ∷ cs))) parts.0).1 in
    let later = or_parts (has_column d.name found) (has_column d.name (c ∷ cs)) (sym (list_any-append (λ (x : Column). bytes_eq x.name d.name) found (c ∷ cs)) ∙ alone) in
    let differs = or_parts (bytes_eq c.name d.name) (has_column d.name cs) later.1 in
    (rest.0, rw (unlike c.name d.name differs.0, rest.1) refl)

no_comma : (n : ℕ) (found : List Column) → Gave (columns_from n found []) (found ++ []) []
unfolding columns_from after sees
no_comma zero found = ap (λ l. Ok (l, [])) (sym (append-nil found))
no_comma (suc n) found = ap (λ l. Ok (l, [])) (sym (append-nil found))

key_free : (d : Column) (found : List Column) (s : Sort) → is_bool_key (d ∷ found) s ≡ false
key_free d found sorts.Int = refl
key_free d found sorts.Text = refl
key_free d found sorts.Bool = refl

one_turn : (n : ℕ) (found : List Column) (i : Input) (c : Column) (r : Input) → Gave (column found i) c r
    → columns_from (suc n) found (word.Mark mark.comma mark.none ∷ i) ≡ columns_from n (found ++ c ∷ []) r
unfolding columns_from after sees
one_turn n found i c r is = ap (λ out. and_then out (λ c. columns_from n (found ++ c ∷ []))) is

more_read : (cs : List Column) (ws : List Word) → AreMore IsColumn ws cs → (n : ℕ) (d : Column) (found : List Column) → length ws ≤ n → are_named ((d ∷ found) ++ cs) ≡ true
    → length ((d ∷ found) ++ cs) ≤ 16 → Gave (columns_from n (d ∷ found) ws) ((d ∷ found) ++ cs) []
more_read [] ws is n d found few named short = subst (λ z. Gave (columns_from n (d ∷ found) z) ((d ∷ found) ++ []) []) (sym is) (no_comma n (d ∷ found))
more_read (c ∷ cs) ws is zero d found few named short = let e = ap length is.2 in absurd (omega arith)
more_read (c ∷ cs) ws is (suc n) d found few named short =
    let i : Input = word.Name c.name ∷ word.Key (sort_key c.sort) ∷ is.1 in
    let words : ws ≡ word.Mark mark.comma mark.none ∷ i = is.2 ∙ ap (λ z. word.Mark mark.comma mark.none ∷ z ++ is.1) is.3 in
    let new = named_at (d ∷ found) c cs named in
    let room : length (d ∷ found) < 16 = let e = length-append (d ∷ found) (c ∷ cs) in omega arith in
    let read = column_read (d ∷ found) c is.1 new.0 room new.1 (key_free d found c.sort) in
    let fewer : length is.1 ≤ n = let e = ap length words in omega arith in
    let shift : (d ∷ found ++ c ∷ []) ++ cs ≡ (d ∷ found) ++ c ∷ cs = append_assoc (d ∷ found) (c ∷ []) cs in
    ap (columns_from (suc n) (d ∷ found)) words
    ∙ one_turn n (d ∷ found) i c is.1 read
    ∙ more_read cs is.1 is.4 n d (found ++ c ∷ []) fewer (ap are_named shift ∙ named) (subst (λ l. length l ≤ 16) (sym shift) short)
    ∙ ap (λ l. Ok (l, [])) shift

first_key : (c : Column) → is_bool c.sort ≡ false → is_bool_key [] c.sort ≡ false
first_key c none = by c.sort none
  where
    by : (s : Sort) → is_bool s ≡ false → is_bool_key [] s ≡ false
    by sorts.Int e = refl
    by sorts.Text e = refl
    by sorts.Bool e = absurd cc

columns_read : (cs : List Column) (ws : List Word) → AreListed IsColumn ws cs → are_named cs ≡ true → length cs ≤ 16 → has_bool_key cs ≡ false → Gave (columns ws) cs []
unfolding columns has_bool_key
columns_read [] ws is named short key_fits = absurd is
columns_read (c ∷ cs) ws is named short key_fits =
    let words : ws ≡ word.Name c.name ∷ word.Key (sort_key c.sort) ∷ is.1 = is.2 ∙ ap (λ z. z ++ is.1) is.3 in
    let new = named_at [] c cs named in
    let read = column_read [] c is.1 new.0 (omega arith) refl (first_key c key_fits) in
    ap columns words
    ∙ ap (λ out. and_then out (λ c j. columns_from (length j) (c ∷ []) j)) read
    ∙ more_read cs is.1 is.4 (length is.1) c [] (omega arith) named short

-- what a catalog that takes a table has found of it
record IsTaken (lines : List TableLine) (t : Table) : Type 0 where
  good : is_name t.name ≡ true
  alone : has_table t.name lines ≡ false
  few : length lines < 64
  named : are_named t.columns ≡ true
  short : length t.columns ≤ 16
  key_fits : has_bool_key t.columns ≡ false

is_taken : (lines : List TableLine) (t : Table) → add_fault (map (λ l. l.table) lines) t ≡ None → IsTaken lines t
unfolding add_fault are_columns
is_taken lines t e = by (is_name t.name) (has_name t.name tables) (are_columns t.columns) (has_bool_key t.columns) (nat_le 64 (length tables)) refl refl refl refl refl e
  where
    tables : List Table
    tables = map (λ l. l.table) lines

    by : (good taken cs bool full : Bool) → is_name t.name ≡ good → has_name t.name tables ≡ taken → are_columns t.columns ≡ cs → has_bool_key t.columns ≡ bool → nat_le 64 (length tables) ≡ full
        → cond (not good || taken) (Some wrong.Name) (cond (not cs) (Some wrong.Columns) (cond bool (Some wrong.KeyColumn) (cond full (Some wrong.TooMany) None))) ≡ None
        → IsTaken lines t
    by true false true false false good taken cs bool full e =
        let few = leb-false 64 (length tables) full in
        let parts = and_parts (nat_le 1 (length t.columns) && nat_le (length t.columns) 16) (are_named t.columns) cs in
        let lengths = and_parts (nat_le 1 (length t.columns)) (nat_le (length t.columns) 16) parts.0 in
        record {
          good = good;
          alone = sym (same_names t.name lines) ∙ taken;
          few = omega (arith, few, length-map lines (λ (l : TableLine). l.table));
          named = parts.1;
          short = leb-true (length t.columns) 16 lengths.1;
          key_fits = bool;
        }
    by false taken cs bool full _ _ _ _ _ e = absurd cc
    by true true cs bool full _ _ _ _ _ e = absurd cc
    by true false false bool full _ _ _ _ _ e = absurd cc
    by true false true true full _ _ _ _ _ e = absurd cc
    by true false true false true _ _ _ _ _ e = absurd cc

pub table_read : (lines : List TableLine) (ws : List Word) (t : Table) → AreTable ws t → add_fault (map (λ l. l.table) lines) t ≡ None → Gave (table lines ws) t []
unfolding table table_name
table_read lines ws t is e =
    let taken = is_taken lines t e in
    let i : Input = word.Name t.name ∷ word.Key (engine_key t.store) ∷ is.0 in
    let test : (is_name t.name && nat_lt (length lines) 64 && not (has_table t.name lines)) ≡ true = rw (taken.good, lt-ltb (length lines) 64 taken.few, taken.alone) refl in
    ap (table lines) is.1
    ∙ ap (λ b. and_then (take_some (cond b (Some t.name) None) i) (λ name. engine >>= (λ store. columns >>= (λ cs. ended (made name store cs))))) test
    ∙ ap (λ o. and_then o (λ store. columns >>= (λ cs. ended (made t.name store cs)))) (engine_read t.store is.0)
    ∙ ap (λ o. and_then o (λ cs. ended (made t.name t.store cs))) (columns_read t.columns is.0 is.2 taken.named taken.short taken.key_fits)
