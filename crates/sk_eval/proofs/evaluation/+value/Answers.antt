use Rattle.sk_rows.specs.Spine.{first_of}
use Rattle.sk_eval.proofs.Operations.{first_fails}
use Rattle.sk_eval.proofs.evaluation.+value.Goals as goal

pub chain_over-returns-in_err-left : goal.chain_over-returns-in_err-left
chain_over-returns-in_err-left t c =
    first_fails c.args.columns.now c.args.row.now c.in_ok-spine.spine.operations.items (first_of c.in_ok-spine.spine.first) c.args.expr.now _ c.from_residual-in_err-left.result
    c.in_ok-spine.ensures.value c.in_err-left.ensures c.from_residual-in_err-left.ensures
