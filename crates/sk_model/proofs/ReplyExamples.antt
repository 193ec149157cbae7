-- The replies and the writes of statements, computed over small tables.
use Rattle.std.specs.Prelude.{◌≡◌, ℕ, zero, suc, List, [], ◌∷◌, Some, None, Bool, Result, Ok, false, true, pos, codes}
use Rattle.std.proofs.Common.{refl, ◌∙◌}
use Rattle.sk_rows.specs.declared.value.Sort.{Sort}
use Rattle.sk_rows.specs.declared.value.Sort.TheVariants as sort
use Rattle.sk_rows.specs.declared.value.Value.{Value}
use Rattle.sk_rows.specs.declared.value.Value.TheVariants as value
use Rattle.sk_rows.specs.declared.table.Column.{Column}
use Rattle.sk_rows.specs.declared.table.Table.{Table}
use Rattle.sk_rows.specs.declared.expr.Op.TheVariants as op
use Rattle.sk_rows.specs.declared.expr.Expr.{Expr}
use Rattle.sk_rows.specs.declared.expr.Expr.TheVariants as expr
use Rattle.sk_rows.specs.declared.expr.Expr.TheOpen.{Expr-F}
use Rattle.sk_rows.specs.declared.statement.SetItem.{SetItem}
use Rattle.sk_rows.specs.declared.statement.Statement.TheVariants as statement
use Rattle.sk_rows.specs.declared.faults.TypeFault.{TypeFault}
use Rattle.sk_rows.specs.declared.faults.ValueFault.{ValueFault}
use Rattle.sk_rows.specs.Typing.{column_sort, two_sort, sort_in, sort_step}
use Rattle.sk_rows.specs.Evaluation.{column_value, compute, in_64, value_in, value_step}
use Rattle.sk_rows.specs.Catalog.{has_column}
use Rattle.sk_model.specs.declared.reply.ErrWord.TheVariants as err
use Rattle.sk_model.specs.declared.reply.Reply.TheVariants as reply
use Rattle.sk_model.specs.Database.{RowOf, Tables}
use Rattle.sk_model.specs.Names.{expr_known, known_step}
use Rattle.sk_model.specs.Reads.{Shape, Equation, Other, shape, shape_step}
use Rattle.sk_model.specs.Replies.{answer_of, insert_refusal, select_refusal, update_refusal, delete_refusal}
use Rattle.sk_model.proofs.Layers.{of_lit, of_col, of_two, of_pair}

abbrev a : List ℕ
a = codes "a"

abbrev b : List ℕ
b = codes "b"

abbrev id : List ℕ
id = codes "id"

abbrev v : List ℕ
v = codes "v"

abbrev numbers : List Column
numbers = record { name = id; sort = sort.Int } ∷ record { name = v; sort = sort.Int } ∷ []

abbrev text_column : List ℕ → Column
text_column name = record { name = name; sort = sort.Text }

abbrev texts : List Column
texts = text_column id ∷ text_column a ∷ text_column b ∷ text_column (codes "c") ∷ text_column (codes "d") ∷ []

-- table 0 is `a` of two numbers, table 1 is `w` of five texts
abbrev catalog : List Table
catalog = record { name = a; store = false; columns = numbers } ∷ record { name = codes "w"; store = true; columns = texts } ∷ []

abbrev int : ℕ → Value
int n = value.Int (pos n)

abbrev row : ℕ → ℕ → RowOf
row key n = int key ∷ int n ∷ []

abbrev greatest : ℕ
greatest = 9223372036854775807

-- the rows (1, 10) and (2, 20) of `a`
abbrev two : Tables
two = ((int 1, row 1 10) ∷ (int 2, row 2 20) ∷ []) ∷ [] ∷ []

-- the rows (1, 10) and (2, 9223372036854775807) of `a`
abbrev full : Tables
full = ((int 1, row 1 10) ∷ (int 2, row 2 greatest) ∷ []) ∷ [] ∷ []

abbrev set : List ℕ → Expr → SetItem
set name e = record { column = name; value = e }

-- Names, in the order of the refusals.
no_table : answer_of catalog two (statement.Select (codes "z") None None) ≡ Some (reply.Refused err.Table, [])
no_table = refl

no_column : answer_of catalog two (statement.Select a (Some (codes "z" ∷ [])) None) ≡ Some (reply.Refused err.Column, [])
unfolding select_refusal
no_column = refl

two_expr : Expr
two_expr = expr.Lit (int 2)

two_known : expr_known numbers two_expr ≡ true
unfolding two_expr
two_known = of_lit Bool (known_step numbers) (int 2)

the_key_set : answer_of catalog two (statement.Update a (set id two_expr ∷ []) None) ≡ Some (reply.Refused err.Key, [])
unfolding update_refusal
the_key_set = rw two_known refl

z_is_1 : Expr
z_is_1 = expr.Two op.Eq (expr.Col (codes "z")) (expr.Lit (int 1))

z_unknown : expr_known numbers z_is_1 ≡ false
unfolding z_is_1
z_unknown = of_pair Bool (known_step numbers) op.Eq (codes "z") (int 1)

a_name_before_the_key : answer_of catalog two (statement.Update a (set id two_expr ∷ []) (Some z_is_1)) ≡ Some (reply.Refused err.Column, [])
unfolding update_refusal
a_name_before_the_key = rw (two_known, z_unknown) refl

set_twice : answer_of catalog two (statement.Update a (set v two_expr ∷ set v two_expr ∷ []) None) ≡ Some (reply.Refused err.Column, [])
unfolding update_refusal
set_twice = rw two_known refl

-- Counts and sorts.
a_value_short : answer_of catalog two (statement.Insert a (int 2 ∷ [])) ≡ Some (reply.Refused err.Type, [])
unfolding insert_refusal
a_value_short = refl

just_v : Expr
just_v = expr.Col v

v_known : expr_known numbers just_v ≡ true
unfolding just_v
v_known = of_col Bool (known_step numbers) v

v_sort : sort_in numbers just_v ≡ Ok sort.Int
unfolding just_v column_sort
v_sort = of_col (Result Sort TypeFault) (sort_step numbers) v

no_truth : answer_of catalog two (statement.Select a None (Some just_v)) ≡ Some (reply.Refused err.Type, [])
unfolding select_refusal
no_truth = rw (v_known, v_sort) refl

-- Duplicates, and sizes behind them.
abbrev many : ℕ → List ℕ
many zero = []
many (suc n) = 97 ∷ many n

abbrev long : Value
long = value.Text (many 255)

abbrev large : RowOf
large = long ∷ long ∷ long ∷ long ∷ long ∷ []

a_second_row : answer_of catalog two (statement.Insert a (row 1 0)) ≡ Some (reply.Refused err.Duplicate, [])
unfolding insert_refusal
a_second_row = refl

too_large : answer_of catalog two (statement.Insert (codes "w") large) ≡ Some (reply.Refused err.Size, [])
unfolding insert_refusal
too_large = refl

a_duplicate_before_the_size : answer_of catalog ([] ∷ ((long, large) ∷ []) ∷ []) (statement.Insert (codes "w") large) ≡ Some (reply.Refused err.Duplicate, [])
unfolding insert_refusal
a_duplicate_before_the_size = refl

inserted : answer_of catalog two (statement.Insert a (row 3 30)) ≡ Some (reply.Count 1, record { table = 0; key = int 3; row = Some (row 3 30) } ∷ [])
unfolding insert_refusal
inserted = refl

-- `v + 1`, over all rows.
plus : Expr
plus = expr.Two op.Add (expr.Col v) (expr.Lit (int 1))

plus_known : expr_known numbers plus ≡ true
unfolding plus
plus_known = of_pair Bool (known_step numbers) op.Add v (int 1)

plus_sort : sort_in numbers plus ≡ Ok sort.Int
unfolding plus column_sort two_sort
plus_sort = of_pair (Result Sort TypeFault) (sort_step numbers) op.Add v (int 1)

plus_at : (key n : ℕ) → value_in numbers (row key n) plus ≡ compute op.Add (int n) (int 1)
unfolding plus column_value
plus_at key n = of_pair (Result Value ValueFault) (value_step numbers (row key n)) op.Add v (int 1)

updated : answer_of catalog two (statement.Update a (set v plus ∷ []) None) ≡ Some (
  reply.Count 2,
  record { table = 0; key = int 1; row = Some (row 1 11) } ∷ record { table = 0; key = int 2; row = Some (row 2 21) } ∷ [],
)
unfolding update_refusal column_sort compute in_64
updated = rw (plus_known, plus_sort, plus_at 1 10, plus_at 2 20) refl

overflows : answer_of catalog full (statement.Update a (set v plus ∷ []) None) ≡ Some (reply.Refused err.Overflow, [])
unfolding update_refusal column_sort compute in_64
overflows = rw (plus_known, plus_sort, plus_at 1 10, plus_at 2 greatest) refl

-- `v < 15`, which one of the two rows meets.
less : Expr
less = expr.Two op.Lt (expr.Col v) (expr.Lit (int 15))

less_known : expr_known numbers less ≡ true
unfolding less
less_known = of_pair Bool (known_step numbers) op.Lt v (int 15)

less_sort : sort_in numbers less ≡ Ok sort.Bool
unfolding less column_sort two_sort
less_sort = of_pair (Result Sort TypeFault) (sort_step numbers) op.Lt v (int 15)

less_shape : shape less ≡ Other
unfolding less
less_shape = of_pair Shape shape_step op.Lt v (int 15)

less_at : (key n : ℕ) → value_in numbers (row key n) less ≡ compute op.Lt (int n) (int 15)
unfolding less column_value
less_at key n = of_pair (Result Value ValueFault) (value_step numbers (row key n)) op.Lt v (int 15)

selected : answer_of catalog two (statement.Select a (Some (v ∷ id ∷ [])) (Some less)) ≡ Some (reply.Rows ((int 10 ∷ int 1 ∷ []) ∷ []), [])
unfolding select_refusal column_value compute
selected = rw (less_known, less_sort, less_shape, less_at 1 10, less_at 2 20) refl

deleted : answer_of catalog two (statement.Delete a (Some less)) ≡ Some (reply.Count 1, record { table = 0; key = int 1; row = None } ∷ [])
unfolding delete_refusal compute
deleted = rw (less_known, less_sort, less_shape, less_at 1 10, less_at 2 20) refl

-- only a row that the condition takes has new values
taken_alone : answer_of catalog full (statement.Update a (set v plus ∷ []) (Some less)) ≡ Some (reply.Count 1, record { table = 0; key = int 1; row = Some (row 1 11) } ∷ [])
unfolding update_refusal column_sort compute in_64
taken_alone = rw (less_known, plus_known, less_sort, plus_sort, less_shape, less_at 1 10, less_at 2 greatest, plus_at 1 10) refl

-- `v + 1 = 11`, which overflows at the row (2, 9223372036854775807)
eleven : Expr
eleven = expr.Two op.Eq plus (expr.Lit (int 11))

eleven_known : expr_known numbers eleven ≡ true
unfolding eleven
eleven_known = of_two Bool (known_step numbers) op.Eq plus (expr.Lit (int 11)) ∙ rw (plus_known, of_lit Bool (known_step numbers) (int 11)) refl

eleven_sort : sort_in numbers eleven ≡ Ok sort.Bool
unfolding eleven two_sort
eleven_sort = of_two (Result Sort TypeFault) (sort_step numbers) op.Eq plus (expr.Lit (int 11)) ∙ rw (plus_sort, of_lit (Result Sort TypeFault) (sort_step numbers) (int 11)) refl

eleven_shape : shape eleven ≡ Other
unfolding eleven plus
eleven_shape = of_two Shape shape_step op.Eq plus (expr.Lit (int 11)) ∙ rw (of_pair Shape shape_step op.Add v (int 1)) refl

eleven_at : (key n : ℕ) → value_in numbers (row key n) eleven ≡ value_step numbers (row key n) (Expr-F.Two op.Eq (compute op.Add (int n) (int 1)) (Ok (int 11)))
unfolding eleven
eleven_at key n =
    of_two (Result Value ValueFault) (value_step numbers (row key n)) op.Eq plus (expr.Lit (int 11)) ∙ rw (plus_at key n, of_lit (Result Value ValueFault) (value_step numbers (row key n)) (int 11)) refl

a_condition_overflows : answer_of catalog full (statement.Delete a (Some eleven)) ≡ Some (reply.Refused err.Overflow, [])
unfolding delete_refusal compute in_64
a_condition_overflows = rw (eleven_known, eleven_sort, eleven_shape, eleven_at 1 10, eleven_at 2 greatest) refl

-- `id = 1` reads that row alone, `1 = id` reads the table.
key_first : shape (expr.Two op.Eq (expr.Col id) (expr.Lit (int 1))) ≡ Equation id (int 1)
key_first = of_pair Shape shape_step op.Eq id (int 1)

key_last : shape (expr.Two op.Eq (expr.Lit (int 1)) (expr.Col id)) ≡ Other
key_last = of_two Shape shape_step op.Eq (expr.Lit (int 1)) (expr.Col id) ∙ rw (of_lit Shape shape_step (int 1)) refl

-- The old rows alone make the new ones: `a` and `b` are exchanged.
abbrev letter : ℕ → Value
letter n = value.Text (n ∷ [])

abbrev swapped : Value → Value → RowOf
swapped x y = letter 120 ∷ x ∷ y ∷ letter 99 ∷ letter 100 ∷ []

col_known : (name : List ℕ) → expr_known texts (expr.Col name) ≡ has_column name texts
col_known name = of_col Bool (known_step texts) name

col_sort : (name : List ℕ) → sort_in texts (expr.Col name) ≡ sort_step texts (Expr-F.Col name)
col_sort name = of_col (Result Sort TypeFault) (sort_step texts) name

col_value : (name : List ℕ) (r : RowOf) → value_in texts r (expr.Col name) ≡ Ok (column_value name texts r)
col_value name r = of_col (Result Value ValueFault) (value_step texts r) name

exchanged : answer_of catalog ([] ∷ ((letter 120, swapped (letter 1) (letter 2)) ∷ []) ∷ []) (statement.Update (codes "w") (set a (expr.Col b) ∷ set b (expr.Col a) ∷ []) None)
    ≡ Some (reply.Count 1, record { table = 1; key = letter 120; row = Some (swapped (letter 2) (letter 1)) } ∷ [])
unfolding update_refusal column_sort column_value
exchanged =
    rw (col_known a, col_known b, col_sort a, col_sort b, col_value a (swapped (letter 1) (letter 2)), col_value b (swapped (letter 1) (letter 2))) refl
