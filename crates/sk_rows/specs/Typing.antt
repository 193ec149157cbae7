-- The sort of an expression over a table's columns.
use Rattle.std.specs.Prelude.{ℕ, Bool, true, false, ◌&&◌, if◌then◌else◌, List, find, Result, Ok, Err, Option, ok_or}
use Rattle.std.specs.Option.{option_map}
use Rattle.std.specs.Str.{bytes_eq}
use Rattle.sk_rows.specs.declared.value.Sort.{Sort}
use Rattle.sk_rows.specs.declared.value.Sort.TheVariants as sort
use Rattle.sk_rows.specs.declared.table.Column.{Column}
use Rattle.sk_rows.specs.declared.expr.Op.{Op}
use Rattle.sk_rows.specs.declared.expr.Op.TheVariants as op
use Rattle.sk_rows.specs.declared.expr.Expr.{Expr}
use Rattle.sk_rows.specs.declared.expr.Expr.TheOpen.{Expr-F}
use Rattle.sk_rows.specs.declared.expr.Expr.TheFolds.{fold-Expr}
use Rattle.sk_rows.specs.Values.{sort_of}
use Rattle.sk_rows.specs.declared.faults.TypeFault.{TypeFault}
use Rattle.sk_rows.specs.declared.faults.TypeFault.TheVariants.{UnknownColumn, TypeMismatch}

infixl 10 ◌>>=◌
abbrev pub ◌>>=◌ : Result Sort TypeFault → (Sort → Result Sort TypeFault) → Result Sort TypeFault
(Ok s) >>= f = f s
(Err e) >>= f = Err e

-- the sort of the column of this name
unfoldable pub column_sort : List ℕ → List Column → Option Sort
column_sort name columns = option_map (λ c. c.sort) (find (λ c. bytes_eq c.name name) columns)

abbrev pub same_sort : Sort → Sort → Bool
same_sort sort.Int sort.Int = true
same_sort sort.Text sort.Text = true
same_sort sort.Bool sort.Bool = true
same_sort _ _ = false

-- an operator takes two values of this sort
abbrev pub takes : Op → Sort → Bool
takes op.Or s = same_sort s sort.Bool
takes op.And s = same_sort s sort.Bool
takes op.Eq s = true
takes op.Ne s = true
takes op.Lt sort.Bool = false
takes op.Lt _ = true
takes op.Le sort.Bool = false
takes op.Le _ = true
takes op.Gt sort.Bool = false
takes op.Gt _ = true
takes op.Ge sort.Bool = false
takes op.Ge _ = true
takes op.Add s = same_sort s sort.Int
takes op.Sub s = same_sort s sort.Int
takes op.Mul s = same_sort s sort.Int

-- the sort of what an operator gives
abbrev pub gives : Op → Sort
gives op.Add = sort.Int
gives op.Sub = sort.Int
gives op.Mul = sort.Int
gives _ = sort.Bool

unfoldable pub two_sort : Op → Sort → Sort → Result Sort TypeFault
two_sort op s t = if same_sort s t && takes op s then Ok (gives op) else Err TypeMismatch

unfoldable pub not_sort : Sort → Result Sort TypeFault
not_sort s = if same_sort s sort.Bool then Ok sort.Bool else Err TypeMismatch

-- the left side, then the right side, then the operator
abbrev pub sort_step : List Column → Expr-F (Result Sort TypeFault) → Result Sort TypeFault
sort_step columns (Expr-F.Lit v) = Ok (sort_of v)
sort_step columns (Expr-F.Col name) = ok_or (column_sort name columns) UnknownColumn
sort_step columns (Expr-F.Not a) = a >>= not_sort
sort_step columns (Expr-F.Two op a b) = a >>= λ s. b >>= λ t. two_sort op s t

-- the sort of an expression, or the first fault
abbrev pub sort_in : List Column → Expr → Result Sort TypeFault
sort_in columns = fold-Expr (Result Sort TypeFault) (sort_step columns)
