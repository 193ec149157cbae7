use Rattle.std.proofs.Common.{◌≡◌, drop}
use Rattle.sk_model.specs.Database.{after_writes}
use Rattle.sk_expr.proofs.states.put_writes.Given as goal

-- The writes to come make of the tables what all writes make of them.
abbrev pub invariant-loop-write : goal.invariant-loop-write
invariant-loop-write l = after_writes l.tables.items (drop l.write-index l.writes) ≡ after_writes l.initial.tables.items l.writes
