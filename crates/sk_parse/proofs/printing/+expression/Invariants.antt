use Rattle.std.proofs.Common.{◌≡◌, ◌++◌, ◌+◌, ◌*◌, vec_len}
use Rattle.sk_rows.specs.Expression.{depth}
use Rattle.sk_rows.specs.Spine.{AreBelow, first_of}
use Rattle.sk_parse.specs.Chains.{behind}
use Rattle.sk_parse.proofs.printing.+expression.Given as goal

abbrev pub decreases-put_first : goal.decreases-put_first
decreases-put_first l = depth (first_of l.first) * 2

abbrev pub decreases-put_behind : goal.decreases-put_behind
decreases-put_behind l = depth l.operation.right.now * 2 + 2

abbrev pub decreases-put_expr : goal.decreases-put_expr
decreases-put_expr l = depth l.e.now * 2 + 1

-- What is written, and what the operations that are left put behind it.
abbrev pub invariant-put_expr-loop-operation : goal.invariant-put_expr-loop-operation
invariant-put_expr-loop-operation l =
    (l.out.items ++ behind l.operations.items l.at ≡ l.initial.out.items ++ behind l.initial.operations.items l.at) × AreBelow (depth l.e) l.operations.items

abbrev pub decreases-put_expr-loop-operation : goal.decreases-put_expr-loop-operation
decreases-put_expr-loop-operation l = vec_len l.operations
