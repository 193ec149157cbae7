-- When writes come to the same, and what they come to in some of the tables.
use Rattle.std.specs.Prelude.{◌≡◌, ℕ, ◌<◌, ◌≤◌, List, [], ◌∷◌, Option, Some, None, Bool, true, false, cond, map}
use Rattle.std.proofs.Common.{refl, sym, ap, ◌∙◌, ⊎_elim, arith}
use Rattle.std.specs.List.{filter, fold}
use Rattle.std.specs.declared.cmp.Ordering.TheVariants.{Greater}
use Rattle.std.specs.Ordering.{nat_cmp, is_lt, ordering_then}
use Rattle.std.specs.Cmp.{nat_cmp_is}
use Rattle.std.specs.FinMap.{IsAntisymmetric, find, is_sorted}
use Rattle.std.specs.FinMap.Entries.{find-put, find-where_key, is_sorted-where_key, same_entries, where_key, below_all}
use Rattle.std.proofs.lemmas.Bool.{cases_Bool, cases_lt, cond-true, cond-false, and_parts, false≢true}
use Rattle.sk_rows.specs.declared.value.Value.{Value}
use Rattle.sk_rows.specs.Values.{value_cmp}
use Rattle.sk_model.specs.declared.commit.Write.{Write}
use Rattle.sk_model.specs.Database.{RowOf, hits, RowId, row_id_cmp, noted, write_of, net}
use Rattle.sk_model.specs.Calls.{last_row}
use Rattle.sk_model.proofs.Lists.{Each}
use Rattle.sk_model.proofs.Lookups.{hits_is}
use Rattle.sk_model.proofs.Nets.{row_ids_ordered, row_id_tied, Rows, found, noted_row, noted_sorted, from_T, row_id_is}
use Rattle.sk_model.proofs.Numbered.{filter-map, each_all}

row_id_cmp-IsAntisymmetric : IsAntisymmetric row_id_cmp
row_id_cmp-IsAntisymmetric x y e = let s : (x.0 ≡ y.0) × (x.1 ≡ y.1) = row_id_is x y e in λ i. (s.0 i, s.1 i)

none_row : (x : Option RowOf) → None ≡ x → Some [] ≡ x → ⊥
none_row x e f = let g : None ≡ Some [] = e ∙ sym f in cc

found_same : (o q : Option (Option RowOf)) → ((r : Option RowOf) → found r o ≡ found r q) → o ≡ q
found_same None None h = refl
found_same None (Some x) h = absurd (none_row x (h None) (h (Some [])))
found_same (Some x) None h = absurd (none_row x (sym (h None)) (sym (h (Some []))))
found_same (Some x) (Some y) h = ap Some (h None)

-- writes that leave each row alike come to the same
pub net_same : (ws vs : List Write) → ((t : ℕ) (key : Value) (r : Option RowOf) → last_row t key r ws ≡ last_row t key r vs) → net ws ≡ net vs
net_same ws vs h = ap (map write_of) (same_entries row_id_cmp row_ids_ordered row_id_cmp-IsAntisymmetric (fold noted [] ws) (fold noted [] vs) (noted_sorted ws [] tt) (noted_sorted vs [] tt)
    (λ p. found_same (find row_id_cmp p (fold noted [] ws)) (find row_id_cmp p (fold noted [] vs)) (λ r. noted_row p.0 p.1 r ws [] ∙ h p.0 p.1 r ∙ sym (noted_row p.0 p.1 r vs []))))

-- what is noted for a row after these writes, where o was noted before
abbrev last_noted : ℕ → Value → Option (Option RowOf) → List Write → Option (Option RowOf)
last_noted t key o ws = fold (λ x w. cond (hits t key w) (Some w.row) x) o ws

noted_find : (t : ℕ) (key : Value) (ws : List Write) (es : Rows) → find row_id_cmp (t, key) (fold noted es ws) ≡ last_noted t key (find row_id_cmp (t, key) es) ws
noted_find t key [] es = refl
noted_find t key (w ∷ ws) es = noted_find t key ws (noted es w)
    ∙ ap (λ o. last_noted t key o ws) (find-put row_id_cmp row_ids_ordered (t, key) (w.table, w.key) w.row es ∙ ap (λ b. cond b (Some w.row) (find row_id_cmp (t, key) es)) (row_id_tied t key w))

-- only the writes to the row's table matter to it
noted_filter : (owns : ℕ → Bool) (t : ℕ) (key : Value) (ws : List Write) (o : Option (Option RowOf))
    → last_noted t key o (filter (λ (w : Write). owns w.table) ws) ≡ cond (owns t) (last_noted t key o ws) o
noted_filter owns t key [] o = sym (same (owns t))
  where
    same : (b : Bool) → cond b o o ≡ o
    same true = refl
    same false = refl
noted_filter owns t key (w ∷ ws) o = ⊎_elim
    (λ (y : owns w.table ≡ true).
    ap (last_noted t key o) (cond-true (owns w.table) (w ∷ filter (λ (w : Write). owns w.table) ws) (filter (λ (w : Write). owns w.table) ws) y)
    ∙ noted_filter owns t key ws (cond (hits t key w) (Some w.row) o)
    ∙ ⊎_elim
    (λ (z : owns t ≡ true). cond-true (owns t) _ (cond (hits t key w) (Some w.row) o) z ∙ sym (cond-true (owns t) _ o z))
    (λ (z : owns t ≡ false). cond-false (owns t) _ (cond (hits t key w) (Some w.row) o) z ∙ cond-false (hits t key w) (Some w.row) o (misses y z) ∙ sym (cond-false (owns t) _ o z))
    (cases_Bool (owns t)))
    (λ (n : owns w.table ≡ false).
    ap (last_noted t key o) (cond-false (owns w.table) (w ∷ filter (λ (w : Write). owns w.table) ws) (filter (λ (w : Write). owns w.table) ws) n)
    ∙ noted_filter owns t key ws o
    ∙ ⊎_elim
    (λ (z : owns t ≡ true). cond-true (owns t) _ o z ∙ ap (λ x. last_noted t key x ws) (sym (cond-false (hits t key w) (Some w.row) o (misses_back n z))) ∙ sym (cond-true (owns t) _ o z))
    (λ (z : owns t ≡ false). cond-false (owns t) _ o z ∙ sym (cond-false (owns t) _ o z))
    (cases_Bool (owns t)))
    (cases_Bool (owns w.table))
  where
    misses : owns w.table ≡ true → owns t ≡ false → hits t key w ≡ false
    misses y z = ⊎_elim (λ (a : hits t key w ≡ true). absurd (false≢true (sym z ∙ ap owns (hits_is t key w a).0 ∙ y))) (λ (a : hits t key w ≡ false). a) (cases_Bool (hits t key w))

    misses_back : owns w.table ≡ false → owns t ≡ true → hits t key w ≡ false
    misses_back n z = ⊎_elim (λ (a : hits t key w ≡ true). absurd (false≢true (sym n ∙ sym (ap owns (hits_is t key w a).0) ∙ z))) (λ (a : hits t key w ≡ false). a) (cases_Bool (hits t key w))

-- what writes come to in some tables is what those of them come to that are to these tables
pub net_filter : (owns : ℕ → Bool) (ws : List Write) → filter (λ (w : Write). owns w.table) (net ws) ≡ net (filter (λ (w : Write). owns w.table) ws)
net_filter owns ws =
    let test : RowId → Bool = λ p. owns p.0 in
    let all : Rows = fold noted [] ws in
    filter-map (λ (w : Write). owns w.table) write_of all
    ∙ ap (map write_of) (same_entries row_id_cmp row_ids_ordered row_id_cmp-IsAntisymmetric (where_key row_id_cmp test all) (fold noted [] (filter (λ (w : Write). owns w.table) ws))
    (is_sorted-where_key row_id_cmp test all (noted_sorted ws [] tt)) (noted_sorted (filter (λ (w : Write). owns w.table) ws) [] tt)
    (λ p. find-where_key row_id_cmp test p (λ x e. ap owns (sym (row_id_is p x e).0)) all
    ∙ ap (λ o. cond (owns p.0) o None) (noted_find p.0 p.1 ws [])
    ∙ sym (noted_find p.0 p.1 (filter (λ (w : Write). owns w.table) ws) [] ∙ noted_filter owns p.0 p.1 ws None)))

less_table : (x y : RowId) → is_lt (row_id_cmp x y) ≡ true → x.0 ≤ y.0
less_table x y e = ⊎_elim
    (λ (l : y.0 < x.0).
    let g : nat_cmp x.0 y.0 ≡ Greater = sym (nat_cmp_is x.0 y.0 Greater l) in
    absurd (false≢true (ap (λ o. is_lt (ordering_then o (value_cmp x.1 y.1))) (sym g) ∙ e)))
    (λ (l : x.0 ≤ y.0). l)
    (cases_lt y.0 x.0)

tables_below : (x : RowId) (es : Rows) → below_all row_id_cmp x es ≡ true → Each (λ e. x.0 ≤ e.0.0) es
tables_below x [] h = tt
tables_below x (e ∷ es) h =
    let parts : (is_lt (row_id_cmp x e.0) ≡ true) × (below_all row_id_cmp x es ≡ true) = and_parts (is_lt (row_id_cmp x e.0)) (below_all row_id_cmp x es) h in
    (less_table x e.0 parts.0, tables_below x es parts.1)

-- what writes come to stands by table: each write with those behind it
pub by_table : (P : ℕ → List Write → Type 0) → ((t : ℕ) → P t []) → ((t : ℕ) (w : Write) (ws : List Write) → t ≤ w.table → P w.table ws → P t (w ∷ ws)) → (ws : List Write) → P 0 (net ws)
by_table P nil cons ws = from 0 (fold noted [] ws) (each_all (λ e. 0 ≤ e.0.0) (λ e. omega arith) (fold noted [] ws)) (from_T (is_sorted row_id_cmp (fold noted [] ws)) (noted_sorted ws [] tt))
  where
    from : (t : ℕ) (es : Rows) → Each (λ e. t ≤ e.0.0) es → is_sorted row_id_cmp es ≡ true → P t (map write_of es)
    from t [] a s = nil t
    from t (e ∷ es) a s =
        let parts : (below_all row_id_cmp e.0 es ≡ true) × (is_sorted row_id_cmp es ≡ true) = and_parts (below_all row_id_cmp e.0 es) (is_sorted row_id_cmp es) s in
        cons t (write_of e) (map write_of es) a.0 (from e.0.0 es (tables_below e.0 es parts.0) parts.1)
