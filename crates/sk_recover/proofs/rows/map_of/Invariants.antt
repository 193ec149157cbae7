use Rattle.std.proofs.Common.{◌≡◌, ◌++◌}
use Rattle.sk_recover.proofs.rows.map_of.Given as goal

-- The rows so far and those to come are all.
abbrev pub invariant-loop-row : goal.invariant-loop-row
invariant-loop-row l = l.map.entries ++ l.row-iterator.rest.items ≡ l.fn.rows
