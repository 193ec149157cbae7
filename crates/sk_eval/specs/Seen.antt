-- Values as an expression sees them, and what the operations of an expression come to.
use Rattle.std.specs.Prelude.{List, [], ◌∷◌, Result, Ok, Err}
use Rattle.sk_rows.specs.declared.value.Value.{Value}
use Rattle.sk_rows.specs.declared.value.Value.TheVariants as value
use Rattle.sk_rows.specs.declared.table.Column.{Column}
use Rattle.sk_rows.specs.declared.operations.Operation.{Operation}
use Rattle.sk_rows.specs.declared.faults.ValueFault.{ValueFault}
use Rattle.sk_rows.specs.Evaluation.{◌>>=◌, compute, value_in}
use Rattle.sk_eval.specs.declared.seen.Seen.{Seen}
use Rattle.sk_eval.specs.declared.seen.Seen.TheVariants as seen

-- the value that is seen
abbrev pub value_seen : Seen → Value
value_seen (seen.Int n) = value.Int n
value_seen (seen.Text t) = value.Text t.now
value_seen (seen.Bool b) = value.Bool b

abbrev pub result_seen : Result Seen ValueFault → Result Value ValueFault
result_seen (Ok x) = Ok (value_seen x)
result_seen (Err fault) = Err fault

-- what the operations, the outermost first, come to behind a left side
abbrev pub operated : List Column → List Value → List Operation → Result Value ValueFault → Result Value ValueFault
operated columns row [] left = left
operated columns row (o ∷ os) left = operated columns row os left >>= λ x. value_in columns row o.right.now >>= λ y. compute o.op x y
