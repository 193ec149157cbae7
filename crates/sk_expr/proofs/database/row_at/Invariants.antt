use Rattle.std.proofs.Common.{◌≡◌, drop}
use Rattle.std.specs.FinMap.{find}
use Rattle.sk_rows.specs.Values.{value_cmp}
use Rattle.sk_expr.proofs.database.row_at.Given as goal

-- No row before this one has the key.
abbrev pub invariant-loop-row : goal.invariant-loop-row
invariant-loop-row l = find value_cmp l.key (drop l.row-index l.rows) ≡ find value_cmp l.key l.rows
