-- What is well typed has a value of its sort, or overflows.
use Rattle.std.proofs.Common.{◌≡◌, ℕ, Bool, true, false, cond, ◌&&◌, nat_lt, List, length, map, slice_get, unwrap_or, Option, Some, None, Result, Ok, Err, ℤ, ◌+ℤ◌, ◌-ℤ◌, ◌*ℤ◌, refl, sym, ap, subst, ◌∙◌}
use Rattle.std.specs.List.{position_or_len}
use Rattle.std.specs.Option.{option_map}
use Rattle.std.specs.Str.{bytes_eq}
use Rattle.std.proofs.lemmas.Bool.{lt-ltb}
use Rattle.std.proofs.lemmas.List.Folds.{find_at}
use Rattle.std.proofs.lemmas.Option.{slice_get-map, slice_get_within}
use Rattle.sk_rows.specs.declared.value.Sort.{Sort}
use Rattle.sk_rows.specs.declared.value.Sort.TheVariants as sort
use Rattle.sk_rows.specs.declared.value.Value.{Value}
use Rattle.sk_rows.specs.declared.value.Value.TheVariants as value
use Rattle.sk_rows.specs.declared.table.Column.{Column}
use Rattle.sk_rows.specs.declared.expr.Op.{Op}
use Rattle.sk_rows.specs.declared.expr.Op.TheVariants as op
use Rattle.sk_rows.specs.declared.expr.Expr.{Expr, roll-Expr, map-Expr}
use Rattle.sk_rows.specs.declared.expr.Expr.TheOpen.{Expr-F}
use Rattle.sk_rows.specs.declared.expr.Expr.TheFolds.{fold-roll-Expr, ind-Expr}
use Rattle.sk_rows.specs.declared.faults.TypeFault.{TypeFault}
use Rattle.sk_rows.specs.declared.faults.TypeFault.TheVariants.{TypeMismatch}
use Rattle.sk_rows.specs.declared.faults.ValueFault.{ValueFault}
use Rattle.sk_rows.specs.declared.faults.ValueFault.TheVariants.{Overflow, NoMemory}
use Rattle.sk_rows.specs.Values.{Fits, sort_of}
use Rattle.sk_rows.specs.Typing.{column_sort, gives, not_sort, same_sort, sort_in, sort_step, takes, two_sort}
use Rattle.sk_rows.specs.Evaluation.{column_value, compute, fits_64, in_64, int, int_of, value_in, value_step}
use Rattle.sk_eval.specs.Sound.{HasSort}

some_of : {A B : Type 0} (f : A → B) (o : Option A) (y : B) → option_map f o ≡ Some y → (x : A) × (o ≡ Some x)
some_of f None y e = absurd cc
some_of f (Some x) y e = (x, refl)

sorted : (o : Option Value) (s : Sort) → option_map sort_of o ≡ Some s → sort_of (unwrap_or o (value.Bool false)) ≡ s
sorted None s e = absurd cc
sorted (Some v) s e = cc

-- the value in a column is of the column's sort
column_typed : (name : List ℕ) (columns : List Column) (row : List Value) (s : Sort) → map sort_of row ≡ map (λ c. c.sort) columns
    → column_sort name columns ≡ Some s → sort_of (column_value name columns row) ≡ s
unfolding column_sort column_value
column_typed name columns row s fits is =
    let test : Column → Bool = λ c. bytes_eq c.name name in
    let i = position_or_len test columns in
    let there : option_map (λ c. c.sort) (slice_get columns i) ≡ Some s = ap (option_map (λ c. c.sort)) (sym (find_at test columns)) ∙ is in
    let here : option_map sort_of (slice_get row i) ≡ Some s =
    sym (slice_get-map sort_of row i) ∙ ap (λ l. slice_get l i) fits ∙ slice_get-map (λ c. c.sort) columns i ∙ there in
    let column = some_of (λ c. c.sort) (slice_get columns i) s there in
    let inside : nat_lt i (length columns) ≡ true = lt-ltb i (length columns) (slice_get_within columns i column.0 column.1) in
    rw inside (sorted (slice_get row i) s here)

chosen : (b : Bool) (s t : Sort) → cond b (Ok s) (Err TypeMismatch) ≡ Ok t → s ≡ t
chosen true s t e = cc
chosen false s t e = absurd cc

int_sorted : (fits : Bool) (z : ℤ) → HasSort sort.Int (int (cond fits (Ok z) (Err Overflow)))
int_sorted true z = refl
int_sorted false z = tt

-- what an operator computes is of the sort that it gives
computed : (o : Op) (x y : Value) → HasSort (gives o) (compute o x y)
unfolding compute in_64
computed op.Or x y = refl
computed op.And x y = refl
computed op.Eq x y = refl
computed op.Ne x y = refl
computed op.Lt x y = refl
computed op.Le x y = refl
computed op.Gt x y = refl
computed op.Ge x y = refl
computed op.Add x y = int_sorted (fits_64 (int_of x +ℤ int_of y)) (int_of x +ℤ int_of y)
computed op.Sub x y = int_sorted (fits_64 (int_of x -ℤ int_of y)) (int_of x -ℤ int_of y)
computed op.Mul x y = int_sorted (fits_64 (int_of x *ℤ int_of y)) (int_of x *ℤ int_of y)

module _ (columns : List Column) (row : List Value) (fits : Fits row columns) where
  -- a result of this sort, where the sort is found
  abbrev Follows : Result Sort TypeFault → Result Value ValueFault → Type 0
  Follows sort result = (s : Sort) → sort ≡ Ok s → HasSort s result

  column_follows : (name : List ℕ) (o : Option Sort) → column_sort name columns ≡ o → Follows (sort_step columns (Expr-F.Col name)) (value_step columns row (Expr-F.Col name))
  column_follows name None is s e = absurd (cc (is, e))
  column_follows name (Some t) is s e = column_typed name columns row s fits.sorts (cc (is, e))

  not_follows : (a : Result Sort TypeFault) (x : Result Value ValueFault) → Follows a x → Follows (sort_step columns (Expr-F.Not a)) (value_step columns row (Expr-F.Not x))
  unfolding not_sort
  not_follows (Err e) x has s is = absurd cc
  not_follows (Ok t) (Ok v) has s is = chosen (same_sort t sort.Bool) sort.Bool s is
  not_follows (Ok t) (Err Overflow) has s is = tt
  not_follows (Ok t) (Err NoMemory) has s is = has t refl

  two_follows : (o : Op) (a b : Result Sort TypeFault) (x y : Result Value ValueFault) → Follows a x → Follows b y
      → Follows (sort_step columns (Expr-F.Two o a b)) (value_step columns row (Expr-F.Two o x y))
  unfolding two_sort
  two_follows o (Err e) b x y left right s is = absurd cc
  two_follows o (Ok t) (Err e) x y left right s is = absurd cc
  two_follows o (Ok t) (Ok u) (Ok v) (Ok w) left right s is = subst (λ z. HasSort z (compute o v w)) (chosen (same_sort t u && takes o t) (gives o) s is) (computed o v w)
  two_follows o (Ok t) (Ok u) (Ok v) (Err Overflow) left right s is = tt
  two_follows o (Ok t) (Ok u) (Ok v) (Err NoMemory) left right s is = right u refl
  two_follows o (Ok t) (Ok u) (Err Overflow) y left right s is = tt
  two_follows o (Ok t) (Ok u) (Err NoMemory) y left right s is = left t refl

  abbrev Sound : Expr → Type 0
  Sound e = Follows (sort_in columns e) (value_in columns row e)

  rolled : (y : Expr-F Expr)
      → Follows (sort_step columns (map-Expr Expr (Result Sort TypeFault) (sort_in columns) y)) (value_step columns row (map-Expr Expr (Result Value ValueFault) (value_in columns row) y))
      → Sound (roll-Expr y)
  rolled y has s is =
      subst (HasSort s) (sym (fold-roll-Expr (Result Value ValueFault) (value_step columns row) y)) (has s (sym (fold-roll-Expr (Result Sort TypeFault) (sort_step columns) y) ∙ is))

  layer : (y : Expr-F ((e : Expr) × Sound e)) → Sound (roll-Expr (map-Expr ((e : Expr) × Sound e) Expr (λ p. p.0) y))
  layer (Expr-F.Lit v) = rolled (Expr-F.Lit v) (λ s is. cc is)
  layer (Expr-F.Col name) = rolled (Expr-F.Col name) (column_follows name (column_sort name columns) refl)
  layer (Expr-F.Not a) = rolled (Expr-F.Not a.0) (not_follows (sort_in columns a.0) (value_in columns row a.0) a.1)
  layer (Expr-F.Two o a b) = rolled (Expr-F.Two o a.0 b.0) (two_follows o (sort_in columns a.0) (sort_in columns b.0) (value_in columns row a.0) (value_in columns row b.0) a.1 b.1)

pub sound : (columns : List Column) (row : List Value) (e : Expr) (s : Sort) → Fits row columns → sort_in columns e ≡ Ok s → HasSort s (value_in columns row e)
sound columns row e s fits is =
    ind-Expr (Sound columns row fits) (λ x y eq. subst (λ z. Sound columns row fits (roll-Expr z)) eq (layer columns row fits y)) e s is
