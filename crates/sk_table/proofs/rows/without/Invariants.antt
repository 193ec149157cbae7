use Rattle.std.proofs.Common.{◌≡◌, ◌++◌, not}
use Rattle.std.specs.Ordering.{eq_by_cmp}
use Rattle.std.specs.FinMap.Entries.{where_key}
use Rattle.sk_rows.specs.Values.{value_cmp}
use Rattle.sk_table.proofs.rows.without.Given as goal

-- The rows so far with those to come are all that stay.
abbrev pub invariant-loop-row : goal.invariant-loop-row
invariant-loop-row l =
    l.out ++ where_key value_cmp (λ k. not (eq_by_cmp value_cmp l.key k)) l.row-iterator.rest.items ≡ where_key value_cmp (λ k. not (eq_by_cmp value_cmp l.key k)) l.fn.rows
