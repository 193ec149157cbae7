-- A table that is read is one that a catalog of the tables before it takes.
use Rattle.std.proofs.Common.{◌≡◌, ℕ, ◌<◌, Bool, true, false, cond, not, ◌&&◌, ◌||◌, List, [], ◌∷◌, map, length, Some, None, Ok, Err, refl, ap, subst, ◌∙◌, arith}
use Rattle.std.specs.Prelude.{nat_lt, ◌==◌}
use Rattle.std.specs.Str.{bytes_eq}
use Rattle.std.proofs.lemmas.Bool.{and_parts, not-true, ltb-true, lt-leb}
use Rattle.std.proofs.lemmas.List.{length-map}
use Rattle.sk_lex.specs.declared.token.Token.{Token}
use Rattle.sk_lex.specs.declared.token.Word.{Word}
use Rattle.sk_lex.specs.declared.token.Word.TheVariants as word
use Rattle.sk_rows.specs.declared.table.Table.{Table}
use Rattle.sk_rows.specs.Catalog.{add_fault, are_columns, has_bool_key, has_table as has_name}
use Rattle.sk_rows.specs.Names.{is_name}
use Rattle.sk_parse.specs.Input.{Input, Outcome, ◌>>=◌, next, refuse}
use Rattle.sk_script.specs.declared.script.TableLine.{TableLine}
use Rattle.sk_script.specs.Header.{answer, columns, ended, engine, has_table, made, new_table, table, table_line, table_name}
use Rattle.sk_script.proofs.Columns.{columns_are_good}
use Rattle.sk_script.proofs.Parts.{kept, then_parts, took}

-- a name that none of these tables has, with room for one more
record IsNew (lines : List TableLine) (name : List ℕ) : Type 0 where
  good : is_name name ≡ true
  few : length lines < 64
  alone : has_table name lines ≡ false

is_new : (lines : List TableLine) (w : Word) (name : List ℕ) → new_table lines w ≡ Some name → IsNew lines name
is_new lines (word.Name t) name e =
    let found = kept (is_name t && nat_lt (length lines) 64 && not (has_table t lines)) t name e in
    let parts = and_parts (is_name t && nat_lt (length lines) 64) (not (has_table t lines)) found.0 in
    let front = and_parts (is_name t) (nat_lt (length lines) 64) parts.0 in
    subst (IsNew lines) found.1 (record { good = front.0; few = ltb-true (length lines) 64 front.1; alone = not-true (has_table t lines) parts.1 })
is_new lines (word.Key k) name e = absurd cc
is_new lines (word.Number n) name e = absurd cc
is_new lines (word.Text t) name e = absurd cc
is_new lines (word.Mark a b) name e = absurd cc

-- the same tables without their lines
pub same_names : (name : List ℕ) (lines : List TableLine) → has_name name (map (λ l. l.table) lines) ≡ has_table name lines
unfolding has_name
same_names name [] = refl
same_names name (l ∷ ls) = ap (λ (b : Bool). bytes_eq l.table.name name || b) (same_names name ls)

no_fault : (tables : List Table) (t : Table) → is_name t.name ≡ true → has_name t.name tables ≡ false → are_columns t.columns ≡ true → has_bool_key t.columns ≡ false → length tables < 64 → add_fault tables t ≡ None
unfolding add_fault
no_fault tables t good alone columns key few = rw (good, alone, columns, key, lt-leb 64 (length tables) few) refl

made_taken : (lines : List TableLine) (t : Table) → IsNew lines t.name → (are_columns t.columns ≡ true) × (has_bool_key t.columns ≡ false) → add_fault (map (λ l. l.table) lines) t ≡ None
made_taken lines t new cs =
    let few : length (map (λ (l : TableLine). l.table) lines) < 64 = omega (arith, new.few, length-map lines (λ (l : TableLine). l.table)) in
    no_fault (map (λ l. l.table) lines) t new.good (same_names t.name lines ∙ new.alone) cs.0 cs.1 few

ended_as : {A : Type 0} (b : Bool) (x : A) (i : Input) (p : A × Input) → cond b (Ok (x, i)) (refuse i) ≡ Ok p → x ≡ p.0
ended_as {A} true x i p e =
    let same : (x, i) ≡ p = cc in
    ap (λ (q : A × Input). q.0) same
ended_as false x i p e = absurd cc

pub table_taken : (lines : List TableLine) (i : Input) (p : Table × Input) → table lines i ≡ Ok p → add_fault (map (λ l. l.table) lines) p.0 ≡ None
unfolding table table_name
table_taken lines i p e =
    let name = then_parts (table_name lines i) (λ name. engine >>= (λ store. columns >>= (λ cs. ended (made name store cs)))) p e in
    let store = then_parts (engine name.0.1) (λ store. columns >>= (λ cs. ended (made name.0.0 store cs))) p name.2 in
    let cs = then_parts (columns store.0.1) (λ cs. ended (made name.0.0 store.0.0 cs)) p store.2 in
    let same = ended_as (length cs.0.1 == 0) (made name.0.0 store.0.0 cs.0.0) cs.0.1 p cs.2 in
    let word = took (new_table lines) i name.0 name.1 in
    let P : Table → Type 0 = λ t. add_fault (map (λ l. l.table) lines) t ≡ None in
    subst P same (made_taken lines (made name.0.0 store.0.0 cs.0.0) (is_new lines word.0 name.0.0 word.1) (columns_are_good store.0.1 cs.0 cs.1))

pub answered : {A : Type 0} (tokens : List Token) (end : ℕ) (o : Outcome A) (x : A) → answer tokens end o ≡ Ok x → (p : A × Input) × (o ≡ Ok p) × (p.0 ≡ x)
answered tokens end (Ok p) x e =
    let same : p.0 ≡ x = cc in
    (p, refl, same)
answered tokens end (Err n) x e = absurd cc

-- the table of a line behind these lines
pub line_taken : (lines : List TableLine) (tokens : List Token) (end : ℕ) (t : Table) → table_line lines tokens end ≡ Ok t → add_fault (map (λ l. l.table) lines) t ≡ None
unfolding table_line
line_taken lines tokens end t e =
    let input = next (map (λ (t : Token). t.word) tokens) in
    let found = answered tokens end (table lines input) t e in
    let P : Table → Type 0 = λ t. add_fault (map (λ l. l.table) lines) t ≡ None in
    subst P found.2 (table_taken lines input found.0 found.1)
