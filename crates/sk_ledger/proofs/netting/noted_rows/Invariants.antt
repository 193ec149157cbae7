use Rattle.std.proofs.Common.{◌≡◌, [], drop}
use Rattle.std.specs.List.{fold}
use Rattle.sk_model.specs.Database.{noted}
use Rattle.sk_ledger.proofs.netting.noted_rows.Given as goal

-- The writes to come leave what all of them leave.
abbrev pub invariant-loop-write : goal.invariant-loop-write
invariant-loop-write l = fold noted l.rows.entries (drop l.write-index l.writes) ≡ fold noted [] l.writes
