use Rattle.std.proofs.Common.{◌≡◌, take, map}
use Rattle.sk_rows.specs.Evaluation.{column_value}
use Rattle.sk_expr.proofs.reads.named.Given as goal

-- The columns before this one are picked.
abbrev pub invariant-loop-name : goal.invariant-loop-name
invariant-loop-name l = l.out.items ≡ map (λ name. column_value name l.columns l.row) (take l.name-index l.all)
