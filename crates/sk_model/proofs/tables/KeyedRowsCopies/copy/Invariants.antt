use Rattle.std.proofs.Common.{◌≡◌, take}
use Rattle.sk_model.proofs.tables.KeyedRowsCopies.copy.Given as goal

-- The rows before this one are copied.
abbrev pub invariant-loop-row : goal.invariant-loop-row
invariant-loop-row l = l.rows.items ≡ take l.row-index l.all
