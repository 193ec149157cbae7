-- The rows that a statement has to look at.
use Rattle.std.specs.Prelude.{◌≡◌, ℕ, Bool, true, List, Option, Some, None, Result, Ok, Err}
use Rattle.std.specs.List.{filter}
use Rattle.sk_rows.specs.declared.value.Value.{Value}
use Rattle.sk_rows.specs.declared.table.Column.{Column}
use Rattle.sk_rows.specs.declared.statement.Statement.{Statement}
use Rattle.sk_rows.specs.declared.statement.Statement.TheVariants as statement
use Rattle.sk_rows.specs.declared.faults.ValueFault.{ValueFault}
use Rattle.sk_model.specs.Database.{KeyedRows, RowOf}
use Rattle.sk_model.specs.Reads.{meets, rows_read}
use Rattle.sk_model.specs.Replies.{comes_to}

-- a row counts where it meets the condition, and where the condition overflows at it
abbrev pub counts : Result Bool ValueFault → Bool
counts (Ok met) = met
counts (Err fault) = true

-- a row can matter to a statement: it counts by its condition, if it has one
abbrev pub concerns : List Column → Statement → RowOf → Bool
concerns columns (statement.Select table names e) row = counts (meets columns e row)
concerns columns (statement.Update table sets e) row = counts (meets columns e row)
concerns columns (statement.Delete table e) row = counts (meets columns e row)
concerns columns _ row = true

-- of the rows that are read those that can matter, where all are read
abbrev pub rows_concerned : List Column → Statement → KeyedRows → Option Value → KeyedRows
rows_concerned columns s rows None = filter (λ r. concerns columns s r.1) rows
rows_concerned columns s rows (Some key) = rows_read rows (Some key)

-- over the rows that can matter a statement comes to the same
abbrev pub IsSameOverConcerned : Type 0
IsSameOverConcerned =
    (columns : List Column) (t : ℕ) (s : Statement) (rows : KeyedRows) (key : Option Value) → comes_to columns t s (rows_concerned columns s rows key) ≡ comes_to columns t s (rows_read rows key)
