use Rattle.std.proofs.Common.{◌≡◌, ◌++◌, map}
use Rattle.sk_model.specs.Reads.{picked}
use Rattle.sk_expr.proofs.reads.all_picked.Given as goal

-- The rows so far with those to come are all that are picked.
abbrev pub invariant-loop-row : goal.invariant-loop-row
invariant-loop-row l =
    l.out.items ++ map (λ r. picked l.columns l.names r.1) l.row-iterator.rest.items ≡ map (λ r. picked l.columns l.names r.1) l.initial.row-iterator.rest.items
