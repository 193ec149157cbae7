-- What writes come to, row by row, is the same as one by one.
use Rattle.std.specs.Prelude.{◌≡◌, ℕ, List, [], ◌∷◌, Option, Some, None, Bool, true, false, cond, ◌&&◌, T, map}
use Rattle.std.proofs.Common.{refl, sym, ap, subst, ◌∙◌, ⊎_elim}
use Rattle.std.specs.List.{fold}
use Rattle.std.specs.declared.cmp.Ordering.{Ordering}
use Rattle.std.specs.declared.cmp.Ordering.TheVariants.{Less, Equal, Greater}
use Rattle.std.specs.Ordering.{nat_cmp, is_eq, is_lt, eq_by_cmp}
use Rattle.std.specs.Cmp.{IsTotalOrder, nat_cmp_total, tied_then, unsigned_tied}
use Rattle.std.specs.FinMap.{find, is_sorted}
use Rattle.std.specs.FinMap.Entries.{find-put, is_sorted-put, below_all, by_order}
use Rattle.std.proofs.lemmas.Cmp.{then_total}
use Rattle.std.proofs.lemmas.Bool.{cases_Bool, cond-true, cond-false, and_parts, eqb-true, false≢true}
use Rattle.sk_rows.specs.declared.value.Value.{Value}
use Rattle.sk_rows.specs.Values.{value_cmp}
use Rattle.sk_rows.specs.Orders.{value_cmp_total}
use Rattle.sk_model.specs.declared.commit.Write.{Write}
use Rattle.sk_model.specs.Database.{RowOf, hits, RowId, row_id_cmp, noted, write_of, net}
use Rattle.sk_model.specs.Calls.{last_row}
use Rattle.sk_model.proofs.Lists.{Each, each_map}
use Rattle.sk_model.proofs.Lookups.{tied_is}

by_table : IsTotalOrder (λ (x y : RowId). nat_cmp x.0 y.0)
by_table = record {
  antisymm = λ x y. nat_cmp_total.antisymm x.0 y.0;
  trans = λ x y z e f. nat_cmp_total.trans x.0 y.0 z.0 e f;
  congr = λ x y z e. nat_cmp_total.congr x.0 y.0 z.0 e;
}

by_key : IsTotalOrder (λ (x y : RowId). value_cmp x.1 y.1)
by_key = record {
  antisymm = λ x y. value_cmp_total.antisymm x.1 y.1;
  trans = λ x y z e f. value_cmp_total.trans x.1 y.1 z.1 e f;
  congr = λ x y z e. value_cmp_total.congr x.1 y.1 z.1 e;
}

pub row_ids_ordered : IsTotalOrder row_id_cmp
row_ids_ordered = then_total by_table by_key

-- rows tie where a write is of the row
pub row_id_tied : (t : ℕ) (key : Value) (w : Write) → eq_by_cmp row_id_cmp (t, key) (w.table, w.key) ≡ hits t key w
row_id_tied t key w = sym (tied_then (nat_cmp t w.table) (value_cmp key w.key)) ∙ ap (λ b. b && is_eq (value_cmp key w.key)) (unsigned_tied t w.table)

abbrev pub Rows : Type 0
Rows = List (RowId × Option RowOf)

abbrev pub found : Option RowOf → Option (Option RowOf) → Option RowOf
found r None = r
found r (Some x) = x

-- the row after the writes noted so far and these
pub noted_row : (t : ℕ) (key : Value) (r : Option RowOf) (ws : List Write) (es : Rows) → found r (find row_id_cmp (t, key) (fold noted es ws)) ≡ last_row t key (found r (find row_id_cmp (t, key) es)) ws
noted_row t key r [] es = refl
noted_row t key r (w ∷ ws) es =
    noted_row t key r ws (noted es w)
    ∙ ap (λ o. last_row t key (found r o) ws) (find-put row_id_cmp row_ids_ordered (t, key) (w.table, w.key) w.row es ∙ ap (λ b. cond b (Some w.row) (find row_id_cmp (t, key) es)) (row_id_tied t key w))
    ∙ ap (λ x. last_row t key x ws) (split (hits t key w))
  where
    split : (b : Bool) → found r (cond b (Some w.row) (find row_id_cmp (t, key) es)) ≡ cond b w.row (found r (find row_id_cmp (t, key) es))
    split true = refl
    split false = refl

pub noted_sorted : (ws : List Write) (es : Rows) → T (is_sorted row_id_cmp es) → T (is_sorted row_id_cmp (fold noted es ws))
noted_sorted [] es h = h
noted_sorted (w ∷ ws) es h = noted_sorted ws (noted es w) (is_sorted-put row_id_cmp row_ids_ordered (w.table, w.key) w.row es h)

pub from_T : (b : Bool) → T b → b ≡ true
from_T true h = refl
from_T false h = absurd h

less_is : (o : Ordering) → is_lt o ≡ true → is_eq o ≡ false
less_is Less e = refl
less_is Equal e = absurd (false≢true e)
less_is Greater e = absurd (false≢true e)

equal_is : (o : Ordering) → is_eq o ≡ true → o ≡ Equal
equal_is Less e = absurd (false≢true e)
equal_is Equal e = refl
equal_is Greater e = absurd (false≢true e)

-- no entry behind one of the row is of the row
none_behind : (t : ℕ) (key : Value) (x : RowId) (r : Option RowOf) (es : Rows) → row_id_cmp (t, key) x ≡ Equal → below_all row_id_cmp x es ≡ true → last_row t key r (map write_of es) ≡ r
none_behind t key x r [] e h = refl
none_behind t key x r (p ∷ es) e h =
    let parts : (is_lt (row_id_cmp x p.0) ≡ true) × (below_all row_id_cmp x es ≡ true) = and_parts (is_lt (row_id_cmp x p.0)) (below_all row_id_cmp x es) h in
    let off : hits t key (write_of p) ≡ false = sym (row_id_tied t key (write_of p)) ∙ ap is_eq (row_ids_ordered.congr (t, key) x p.0 e) ∙ less_is (row_id_cmp x p.0) parts.0 in
    ap (λ y. last_row t key y (map write_of es)) (cond-false (hits t key (write_of p)) p.1 r off) ∙ none_behind t key x r es e parts.1

-- of entries in order the last write is the one that is found
last_found : (t : ℕ) (key : Value) (r : Option RowOf) (es : Rows) → is_sorted row_id_cmp es ≡ true → last_row t key r (map write_of es) ≡ found r (find row_id_cmp (t, key) es)
last_found t key r [] h = refl
last_found t key r (p ∷ es) h =
    let parts : (below_all row_id_cmp p.0 es ≡ true) × (is_sorted row_id_cmp es ≡ true) = and_parts (below_all row_id_cmp p.0 es) (is_sorted row_id_cmp es) h in
    let same : eq_by_cmp row_id_cmp (t, key) p.0 ≡ hits t key (write_of p) = row_id_tied t key (write_of p) in
    ⊎_elim
    (λ (y : hits t key (write_of p) ≡ true).
    let tie : eq_by_cmp row_id_cmp (t, key) p.0 ≡ true = same ∙ y in
    ap (λ x. last_row t key x (map write_of es)) (cond-true (hits t key (write_of p)) p.1 r y) ∙ none_behind t key p.0 p.1 es (equal_is (row_id_cmp (t, key) p.0) tie) parts.0
    ∙ sym (ap (found r) (cond-true (eq_by_cmp row_id_cmp (t, key) p.0) (Some p.1) (find row_id_cmp (t, key) es) tie)))
    (λ (n : hits t key (write_of p) ≡ false).
    let tie : eq_by_cmp row_id_cmp (t, key) p.0 ≡ false = same ∙ n in
    ap (λ x. last_row t key x (map write_of es)) (cond-false (hits t key (write_of p)) p.1 r n) ∙ last_found t key r es parts.1
    ∙ sym (ap (found r) (cond-false (eq_by_cmp row_id_cmp (t, key) p.0) (Some p.1) (find row_id_cmp (t, key) es) tie)))
    (cases_Bool (hits t key (write_of p)))

-- a row after what the writes come to is the row after the writes
pub net_row : (t : ℕ) (key : Value) (r : Option RowOf) (ws : List Write) → last_row t key r (net ws) ≡ last_row t key r ws
net_row t key r ws = last_found t key r (fold noted [] ws) (from_T (is_sorted row_id_cmp (fold noted [] ws)) (noted_sorted ws [] tt)) ∙ noted_row t key r ws []

pub row_id_is : (x y : RowId) → row_id_cmp x y ≡ Equal → (x.0 ≡ y.0) × (x.1 ≡ y.1)
row_id_is x y e =
    let both : (is_eq (nat_cmp x.0 y.0) && is_eq (value_cmp x.1 y.1)) ≡ true = tied_then (nat_cmp x.0 y.0) (value_cmp x.1 y.1) ∙ ap is_eq e in
    let parts : (is_eq (nat_cmp x.0 y.0) ≡ true) × (is_eq (value_cmp x.1 y.1) ≡ true) = and_parts (is_eq (nat_cmp x.0 y.0)) (is_eq (value_cmp x.1 y.1)) both in
    (eqb-true x.0 y.0 (sym (unsigned_tied x.0 y.0) ∙ parts.0), tied_is x.1 y.1 parts.1)

noted_here : (P : Write → Type 0) (w : Write) (e : RowId × Option RowOf) (es : Rows) → P w → P (write_of e) → Each (λ e. P (write_of e)) es → Each (λ e. P (write_of e)) (noted es w) → Each (λ e. P (write_of e)) (noted (e ∷ es) w)
noted_here P w e es p h hs rest = go (row_id_cmp (w.table, w.key) e.0) refl
  where
    go : (o : Ordering) → row_id_cmp (w.table, w.key) e.0 ≡ o → Each (λ e. P (write_of e)) (by_order o (((w.table, w.key), w.row) ∷ e ∷ es) ((e.0, w.row) ∷ es) (e ∷ noted es w))
    go Less f = (p, (h, hs))
    go Equal f =
        let same : (w.table ≡ e.0.0) × (w.key ≡ e.0.1) = row_id_is (w.table, w.key) e.0 f in
        let is : w ≡ record { table = e.0.0; key = e.0.1; row = w.row } = λ i. record { table = same.0 i; key = same.1 i; row = w.row } in
        (subst P is p, hs)
    go Greater f = (h, rest)

each_noted : (P : Write → Type 0) (w : Write) → P w → (es : Rows) → Each (λ e. P (write_of e)) es → Each (λ e. P (write_of e)) (noted es w)
each_noted P w p [] h = (p, tt)
each_noted P w p (e ∷ es) h = noted_here P w e es p h.0 h.1 (each_noted P w p es h.1)

each_all_noted : (P : Write → Type 0) (ws : List Write) → Each P ws → (es : Rows) → Each (λ e. P (write_of e)) es → Each (λ e. P (write_of e)) (fold noted es ws)
each_all_noted P [] h es k = k
each_all_noted P (w ∷ ws) h es k = each_all_noted P ws h.1 (noted es w) (each_noted P w h.0 es k)

-- what holds of each write holds of each that they come to
pub each_net : (P : Write → Type 0) (ws : List Write) → Each P ws → Each P (net ws)
each_net P ws h = each_map P write_of (fold noted [] ws) (each_all_noted P ws h [] tt)
