-- The new rows of an UPDATE.
use Rattle.std.specs.Prelude.{List, Option, Result}
use Rattle.sk_rows.specs.declared.table.Column.{Column}
use Rattle.sk_rows.specs.declared.expr.Expr.{Expr}
use Rattle.sk_rows.specs.declared.statement.SetItem.{SetItem}
use Rattle.sk_rows.specs.declared.faults.ValueFault.{ValueFault}
use Rattle.sk_rows.specs.Evaluation.{◌>>=◌}
use Rattle.sk_model.specs.Database.{KeyedRows}
use Rattle.sk_model.specs.Reads.{rows_met}
use Rattle.sk_model.specs.Changes.{new_rows}

-- the new rows of the rows that meet the condition
abbrev pub rows_changed : List Column → List SetItem → Option Expr → KeyedRows → Result KeyedRows ValueFault
rows_changed columns sets e rows = rows_met columns e rows >>= new_rows columns sets
