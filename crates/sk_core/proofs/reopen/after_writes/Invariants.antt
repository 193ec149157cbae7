use Rattle.std.proofs.Common.{◌≡◌, drop}
use Rattle.sk_model.specs.Database.{after_writes}
use Rattle.sk_core.proofs.reopen.after_writes.Given as goal

-- The writes to come leave what all of them leave.
abbrev pub invariant-loop-write : goal.invariant-loop-write
invariant-loop-write l = after_writes l.tables (drop l.write-index l.writes) ≡ after_writes l.fn.rows l.writes
