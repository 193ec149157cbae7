use Rattle.std.proofs.Common.{◌≡◌, drop, map}
use Rattle.std.specs.List.{filter}
use Rattle.sk_model.specs.Database.{after_writes}
use Rattle.sk_model.specs.EngineReplies.{is_seen}
use Rattle.sk_table.proofs.reading.with_seen.Given as goal

-- The versions to come leave what all of them leave.
abbrev pub invariant-loop-version : goal.invariant-loop-version
invariant-loop-version l =
    after_writes l.tables (map (λ v. v.write) (filter (is_seen l.tx l.snapshot) (drop l.version-index l.versions))) ≡ after_writes l.fn.rows (map (λ v. v.write) (filter (is_seen l.tx l.snapshot) l.versions))
