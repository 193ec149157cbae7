-- The value of an expression over a row.
use Rattle.std.specs.Prelude.{ℕ, ◌^◌, Bool, true, false, not, ◌&&◌, ◌||◌, if◌then◌else◌, nat_lt, List, position, slice_get, unwrap_or, option_and_then, Result, Ok, Err, ℤ, pos, negsuc, ◌+ℤ◌, ◌-ℤ◌, ◌*ℤ◌}
use Rattle.std.specs.Str.{bytes_eq}
use Rattle.std.specs.Ordering.{is_eq, is_ne, is_lt, is_le, is_gt, is_ge}
use Rattle.sk_rows.specs.declared.value.Value.{Value}
use Rattle.sk_rows.specs.declared.value.Value.TheVariants as value
use Rattle.sk_rows.specs.declared.table.Column.{Column}
use Rattle.sk_rows.specs.declared.expr.Op.{Op}
use Rattle.sk_rows.specs.declared.expr.Op.TheVariants as op
use Rattle.sk_rows.specs.declared.expr.Expr.{Expr}
use Rattle.sk_rows.specs.declared.expr.Expr.TheOpen.{Expr-F}
use Rattle.sk_rows.specs.declared.expr.Expr.TheFolds.{fold-Expr}
use Rattle.sk_rows.specs.Values.{value_cmp}
use Rattle.sk_rows.specs.declared.faults.ValueFault.{ValueFault}
use Rattle.sk_rows.specs.declared.faults.ValueFault.TheVariants.{Overflow, NoMemory}

infixl 10 ◌>>=◌
abbrev pub ◌>>=◌ : {A B : Type 0} → Result A ValueFault → (A → Result B ValueFault) → Result B ValueFault
(Ok x) >>= f = f x
(Err e) >>= f = Err e

-- whether the fault is want of memory
abbrev pub wants_memory : ValueFault → Bool
wants_memory Overflow = false
wants_memory NoMemory = true

-- A value of another sort counts as 0, and as FALSE: a checked expression has none.
abbrev pub int_of : Value → ℤ
int_of (value.Int n) = n
int_of (value.Text t) = pos 0
int_of (value.Bool b) = pos 0

abbrev pub is_true : Value → Bool
is_true (value.Int n) = false
is_true (value.Text t) = false
is_true (value.Bool b) = b

-- the value in the column of this name
unfoldable pub column_value : List ℕ → List Column → List Value → Value
column_value name columns row = unwrap_or (option_and_then (λ at. slice_get row at) (position (λ c. bytes_eq c.name name) columns)) (value.Bool false)

-- z lies from -(2 ^ 63) to 2 ^ 63 - 1
abbrev pub fits_64 : ℤ → Bool
fits_64 (pos n) = nat_lt n (2 ^ 63)
fits_64 (negsuc n) = nat_lt n (2 ^ 63)

unfoldable pub in_64 : ℤ → Result ℤ ValueFault
in_64 z = if fits_64 z then Ok z else Err Overflow

abbrev pub int : Result ℤ ValueFault → Result Value ValueFault
int (Ok z) = Ok (value.Int z)
int (Err e) = Err e

unfoldable pub compute : Op → Value → Value → Result Value ValueFault
compute op.Or a b = Ok (value.Bool (is_true a || is_true b))
compute op.And a b = Ok (value.Bool (is_true a && is_true b))
compute op.Eq a b = Ok (value.Bool (is_eq (value_cmp a b)))
compute op.Ne a b = Ok (value.Bool (is_ne (value_cmp a b)))
compute op.Lt a b = Ok (value.Bool (is_lt (value_cmp a b)))
compute op.Le a b = Ok (value.Bool (is_le (value_cmp a b)))
compute op.Gt a b = Ok (value.Bool (is_gt (value_cmp a b)))
compute op.Ge a b = Ok (value.Bool (is_ge (value_cmp a b)))
compute op.Add a b = int (in_64 (int_of a +ℤ int_of b))
compute op.Sub a b = int (in_64 (int_of a -ℤ int_of b))
compute op.Mul a b = int (in_64 (int_of a *ℤ int_of b))

-- both sides are computed, the left one first
abbrev pub value_step : List Column → List Value → Expr-F (Result Value ValueFault) → Result Value ValueFault
value_step columns row (Expr-F.Lit v) = Ok v
value_step columns row (Expr-F.Col name) = Ok (column_value name columns row)
value_step columns row (Expr-F.Not a) = a >>= λ v. Ok (value.Bool (not (is_true v)))
value_step columns row (Expr-F.Two op a b) = a >>= λ x. b >>= λ y. compute op x y

-- the value of an expression, or Overflow
abbrev pub value_in : List Column → List Value → Expr → Result Value ValueFault
value_in columns row = fold-Expr (Result Value ValueFault) (value_step columns row)

-- whether the row meets the condition
abbrev pub holds_in : List Column → List Value → Expr → Result Bool ValueFault
holds_in columns row cond = value_in columns row cond >>= λ v. Ok (is_true v)
