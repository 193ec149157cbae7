-- What a table is after a list of writes: only those to the table matter.
use Rattle.std.specs.Prelude.{ℕ, List, [], ◌∷◌, Bool, true, false, ◌==◌, ◌&&◌, ◌≡◌, ◌<◌, ◌≤◌, length}
use Rattle.std.proofs.Common.{refl, sym, ap, ◌∙◌, ⊎_elim, arith}
use Rattle.std.specs.List.{filter, flat_map, fold}
use Rattle.std.proofs.lemmas.Bool.{cases_lt, cases_eq, eq-eqb, ne_eqb}
use Rattle.std.proofs.Math.Bool.{and-false}
use Rattle.std.proofs.lemmas.List.{get_or-set_same, get_or-set_other, length-set, get_or_past, ext_get_or}
use Rattle.sk_model.specs.declared.commit.Write.{Write}
use Rattle.sk_model.specs.declared.commit.Commit.{Commit}
use Rattle.sk_model.specs.Database.{KeyedRows, Tables, rows_with, table_of, after_write, after_writes, state}
use Rattle.sk_model.proofs.Lists.{Each, filter_twice}
use Rattle.sk_model.proofs.Lookups.{length_after_writes, state_is}

-- the write is to this table
abbrev pub is_to : ℕ → Write → Bool
is_to t w = t == w.table

abbrev with_write : KeyedRows → Write → KeyedRows
with_write rows w = rows_with rows w.key w.row

table_after_writes : (db : Tables) (ws : List Write) (t : ℕ) → t < length db → table_of (after_writes db ws) t ≡ fold with_write (table_of db t) (filter (is_to t) ws)
table_after_writes db [] t l = refl
table_after_writes db (w ∷ ws) t l =
    let len : length (after_write db w) ≡ length db = length-set db w.table _ in
    let ih : table_of (after_writes (after_write db w) ws) t ≡ fold with_write (table_of (after_write db w) t) (filter (is_to t) ws) = table_after_writes (after_write db w) ws t (omega arith) in
    ⊎_elim
    (λ (e : t ≡ w.table).
    let yes : (t == w.table) ≡ true = eq-eqb t w.table e in
    let here : table_of (after_write db w) t ≡ with_write (table_of db t) w = rw e (get_or-set_same db w.table (rows_with (table_of db w.table) w.key w.row) [] (omega arith)) in
    rw yes (ih ∙ ap (λ rows. fold with_write rows (filter (is_to t) ws)) here))
    (λ (ne : t ≡ w.table → ⊥).
    let off : (t == w.table) ≡ false = ne_eqb t w.table ne in
    let here : table_of (after_write db w) t ≡ table_of db t = get_or-set_other db w.table t (rows_with (table_of db w.table) w.key w.row) [] ne in
    rw off (ih ∙ ap (λ rows. fold with_write rows (filter (is_to t) ws)) here))
    (cases_eq t w.table)

-- writes of which those to a table are the same make the same of it
table_by_writes : (db : Tables) (ws vs : List Write) (t : ℕ) → filter (is_to t) ws ≡ filter (is_to t) vs → table_of (after_writes db ws) t ≡ table_of (after_writes db vs) t
table_by_writes db ws vs t e = ⊎_elim
    (λ (l : t < length db). table_after_writes db ws t l ∙ ap (λ us. fold with_write (table_of db t) us) e ∙ sym (table_after_writes db vs t l))
    (λ (l : length db ≤ t). past ws l ∙ sym (past vs l))
    (cases_lt t (length db))
  where
    past : (us : List Write) → length db ≤ t → table_of (after_writes db us) t ≡ []
    past us l = let len : length (after_writes db us) ≡ length db = length_after_writes db us in get_or_past (after_writes db us) t [] (omega arith)

-- and what they make of it is by what it was
table_by_start : (x y : Tables) (ws : List Write) (t : ℕ) → length x ≡ length y → table_of x t ≡ table_of y t → table_of (after_writes x ws) t ≡ table_of (after_writes y ws) t
table_by_start x y ws t same e = ⊎_elim
    (λ (l : t < length x). table_after_writes x ws t l ∙ ap (λ rows. fold with_write rows (filter (is_to t) ws)) e ∙ sym (table_after_writes y ws t (omega arith)))
    (λ (l : length x ≤ t).
    let lx : length (after_writes x ws) ≡ length x = length_after_writes x ws in
    let ly : length (after_writes y ws) ≡ length y = length_after_writes y ws in
    get_or_past (after_writes x ws) t [] (omega arith) ∙ sym (get_or_past (after_writes y ws) t [] (omega arith)))
    (cases_lt t (length x))

-- so it is with commits
pub state_by_writes : (rows : Tables) (cs ds : List Commit) (t : ℕ) → filter (is_to t) (flat_map (λ c. c.writes) cs) ≡ filter (is_to t) (flat_map (λ c. c.writes) ds) → table_of (state rows cs) t ≡ table_of (state rows ds) t
state_by_writes rows cs ds t e =
    ap (λ db. table_of db t) (state_is rows cs) ∙ table_by_writes rows (flat_map (λ c. c.writes) cs) (flat_map (λ c. c.writes) ds) t e ∙ ap (λ db. table_of db t) (sym (state_is rows ds))

pub state_by_start : (x y : Tables) (cs : List Commit) (t : ℕ) → length x ≡ length y → table_of x t ≡ table_of y t → table_of (state x cs) t ≡ table_of (state y cs) t
state_by_start x y cs t l e =
    ap (λ db. table_of db t) (state_is x cs) ∙ table_by_start x y (flat_map (λ c. c.writes) cs) t l e ∙ ap (λ db. table_of db t) (sym (state_is y cs))

-- tables that are the same one by one are the same
pub same_tables : (x y : Tables) → length x ≡ length y → ((t : ℕ) → table_of x t ≡ table_of y t) → x ≡ y
same_tables x y l h = ext_get_or [] x y l (λ t m. h t)

-- those to an owned table are owned
pub to_owned : (owns : ℕ → Bool) (ws : List Write) (t : ℕ) → owns t ≡ true → filter (is_to t) ws ≡ filter (is_to t) (filter (λ (w : Write). owns w.table) ws)
to_owned owns ws t y = sym (filter_twice (is_to t) (λ (w : Write). owns w.table) (is_to t) (λ w. same w.table) ws)
  where
    same : (u : ℕ) → (owns u && (t == u)) ≡ (t == u)
    same u = ⊎_elim
        (λ (e : t ≡ u). let o : owns u ≡ true = ap owns (sym e) ∙ y in rw o refl)
        (λ (ne : t ≡ u → ⊥). let off : (t == u) ≡ false = ne_eqb t u ne in rw off (and-false (owns u)))
        (cases_eq t u)

-- there are none to it where each is to a table of the other kind
pub none_to : (is_kind : ℕ → Bool) (kind other : Bool) (ws : List Write) (t : ℕ) → (kind ≡ other → ⊥) → is_kind t ≡ other → Each (λ (w : Write). is_kind w.table ≡ kind) ws → filter (is_to t) ws ≡ []
none_to is_kind kind other [] t ne e h = refl
none_to is_kind kind other (w ∷ ws) t ne e h =
    let off : (t == w.table) ≡ false = ne_eqb t w.table (λ s. ne (sym h.0 ∙ ap is_kind (sym s) ∙ e)) in
    rw off (none_to is_kind kind other ws t ne e h.1)
