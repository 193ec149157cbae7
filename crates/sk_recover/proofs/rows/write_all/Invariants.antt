use Rattle.std.proofs.Common.{◌≡◌}
use Rattle.sk_model.specs.Database.{after_writes}
use Rattle.sk_recover.specs.Maps.{entries_of}
use Rattle.sk_recover.proofs.rows.write_all.Given as goal

-- The writes to come leave what all of them leave.
abbrev pub invariant-loop-write : goal.invariant-loop-write
invariant-loop-write l = after_writes (entries_of l.tables.items) l.write-iterator.rest.items ≡ after_writes (entries_of l.initial.tables.items) l.fn.writes
