-- Rows put at the place of their key.
use Rattle.std.proofs.Common.{◌≡◌, ◌+◌, true, false, cond, [], ◌∷◌, slice_get, slice_set, refl, sym, ap, arith}
use Rattle.std.specs.Prelude.{suc}
use Rattle.std.specs.List.{insert}
use Rattle.std.specs.Ordering.{is_eq, is_gt}
use Rattle.std.specs.declared.cmp.Ordering.{Ordering}
use Rattle.std.specs.declared.cmp.Ordering.TheVariants.{Less, Equal, Greater}
use Rattle.std.specs.FinMap.{put}
use Rattle.std.specs.FinMap.Entries.{by_order}
use Rattle.sk_rows.specs.declared.value.Value.{Value}
use Rattle.sk_rows.specs.Values.{value_cmp}
use Rattle.sk_rows.specs.Orders.{value_cmp-IsAntisymmetric}
use Rattle.sk_model.specs.Database.{RowOf, KeyedRows}
use Rattle.sk_expr.specs.Placing.{lesser, ties}

-- a key that no row has
new_by : (k : Value) (v : RowOf) (e : Value × RowOf) (es : KeyedRows) (o : Ordering) → value_cmp k e.0 ≡ o
    → (ties k (slice_get es (lesser es k)) ≡ false → put value_cmp k v es ≡ insert es (lesser es k) (k, v))
    → ties k (slice_get (e ∷ es) (cond (is_gt o) (1 + lesser es k) 0)) ≡ false
    → by_order o ((k, v) ∷ e ∷ es) ((e.0, v) ∷ es) (e ∷ put value_cmp k v es) ≡ insert (e ∷ es) (cond (is_gt o) (1 + lesser es k) 0) (k, v)
new_by k v e es Less is rest miss = refl
new_by k v e es Equal is rest miss = let hit : is_eq (value_cmp k e.0) ≡ true = ap is_eq is in absurd cc
new_by k v e es Greater is rest miss =
    let n = lesser es k in
    let more : 1 + n ≡ suc n = omega arith in
    let missed : ties k (slice_get es n) ≡ false = rw more at miss in
    rw more (ap (λ (rows : KeyedRows). e ∷ rows) (rest missed))

pub put_new : (k : Value) (v : RowOf) (rows : KeyedRows) → ties k (slice_get rows (lesser rows k)) ≡ false → put value_cmp k v rows ≡ insert rows (lesser rows k) (k, v)
put_new k v [] miss = refl
put_new k v (e ∷ es) miss = new_by k v e es (value_cmp k e.0) refl (put_new k v es) miss

-- a key that a row has
hit_by : (k : Value) (v : RowOf) (e : Value × RowOf) (es : KeyedRows) (o : Ordering) → value_cmp k e.0 ≡ o
    → (ties k (slice_get es (lesser es k)) ≡ true → put value_cmp k v es ≡ slice_set es (lesser es k) (k, v))
    → ties k (slice_get (e ∷ es) (cond (is_gt o) (1 + lesser es k) 0)) ≡ true
    → by_order o ((k, v) ∷ e ∷ es) ((e.0, v) ∷ es) (e ∷ put value_cmp k v es) ≡ slice_set (e ∷ es) (cond (is_gt o) (1 + lesser es k) 0) (k, v)
hit_by k v e es Less is rest hit = let miss : is_eq (value_cmp k e.0) ≡ false = ap is_eq is in absurd cc
hit_by k v e es Equal is rest hit = ap (λ (a : Value). (a, v) ∷ es) (sym (value_cmp-IsAntisymmetric k e.0 is))
hit_by k v e es Greater is rest hit =
    let n = lesser es k in
    let more : 1 + n ≡ suc n = omega arith in
    let found : ties k (slice_get es n) ≡ true = rw more at hit in
    rw more (ap (λ (rows : KeyedRows). e ∷ rows) (rest found))

pub put_hit : (k : Value) (v : RowOf) (rows : KeyedRows) → ties k (slice_get rows (lesser rows k)) ≡ true → put value_cmp k v rows ≡ slice_set rows (lesser rows k) (k, v)
put_hit k v [] hit = absurd cc
put_hit k v (e ∷ es) hit = hit_by k v e es (value_cmp k e.0) refl (put_hit k v es) hit
