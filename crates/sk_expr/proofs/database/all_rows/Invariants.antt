use Rattle.std.proofs.Common.{◌≡◌, take}
use Rattle.sk_expr.proofs.database.all_rows.Given as goal

-- The rows before this one are copied.
abbrev pub invariant-loop-item : goal.invariant-loop-item
invariant-loop-item l = l.out.items ≡ take l.item-index l.rows
