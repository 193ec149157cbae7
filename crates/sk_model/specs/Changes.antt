-- The new rows of an UPDATE, each made of its old row alone.
use Rattle.std.specs.Prelude.{List, [], ◌∷◌, Option, Some, None, find, Result, Ok}
use Rattle.std.specs.Str.{bytes_eq}
use Rattle.sk_rows.specs.declared.value.Value.{Value}
use Rattle.sk_rows.specs.declared.table.Column.{Column}
use Rattle.sk_rows.specs.declared.statement.SetItem.{SetItem}
use Rattle.sk_rows.specs.declared.faults.ValueFault.{ValueFault}
use Rattle.sk_rows.specs.Evaluation.{◌>>=◌, value_in}
use Rattle.sk_model.specs.Database.{RowOf, KeyedRows}

-- the new value of a column that is set, over the old row, or the value that it has
abbrev pub new_value : List Column → RowOf → Option SetItem → Value → Result Value ValueFault
new_value columns row None old = Ok old
new_value columns row (Some s) old = value_in columns row s.value

-- the new values of these columns, which have the old values vs
abbrev pub new_values : List Column → RowOf → List SetItem → List Column → List Value → Result (List Value) ValueFault
new_values columns row sets [] vs = Ok []
new_values columns row sets (c ∷ cs) [] = Ok []
new_values columns row sets (c ∷ cs) (v ∷ vs) =
    new_value columns row (find (λ s. bytes_eq s.column c.name) sets) v >>= λ new. new_values columns row sets cs vs >>= λ rest. Ok (new ∷ rest)

abbrev pub new_row : List Column → List SetItem → RowOf → Result RowOf ValueFault
new_row columns sets row = new_values columns row sets columns row

-- the new rows, or Overflow where a new value of any of them overflows
abbrev pub new_rows : List Column → List SetItem → KeyedRows → Result KeyedRows ValueFault
new_rows columns sets [] = Ok []
new_rows columns sets (r ∷ rs) = new_row columns sets r.1 >>= λ row. new_rows columns sets rs >>= λ rest. Ok ((r.0, row) ∷ rest)
