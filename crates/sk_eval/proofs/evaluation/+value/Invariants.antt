use Rattle.std.proofs.Common.{◌≡◌, ◌+◌, ◌*◌, vec_len, Ok}
use Rattle.sk_rows.specs.Expression.{depth}
use Rattle.sk_rows.specs.Evaluation.{value_in}
use Rattle.sk_rows.specs.Spine.{AreBelow, first_of}
use Rattle.sk_eval.specs.Seen.{operated, value_seen}
use Rattle.sk_eval.proofs.evaluation.+value.Given as goal

abbrev pub decreases-first_over : goal.decreases-first_over
decreases-first_over l = depth (first_of l.first) * 3

abbrev pub decreases-seen_over : goal.decreases-seen_over
decreases-seen_over l = depth l.expr.now * 3 + 2

abbrev pub decreases-chain_over : goal.decreases-chain_over
decreases-chain_over l = depth l.expr.now * 3 + 1

-- The operations that are left, behind the value so far, come to the value of the whole.
abbrev pub invariant-chain_over-loop-operation : goal.invariant-chain_over-loop-operation
invariant-chain_over-loop-operation l =
    (value_in l.columns l.row l.expr ≡ operated l.columns l.row l.operations.items (Ok (value_seen l.left))) × AreBelow (depth l.expr) l.operations.items

abbrev pub decreases-chain_over-loop-operation : goal.decreases-chain_over-loop-operation
decreases-chain_over-loop-operation l = vec_len l.operations
