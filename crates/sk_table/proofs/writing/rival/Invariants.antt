use Rattle.std.proofs.Common.{◌≡◌, drop}
use Rattle.std.specs.List.{find}
use Rattle.sk_model.specs.EngineReplies.{is_rival}
use Rattle.sk_table.proofs.writing.rival.Given as goal

-- The first of those to come is the first of all.
abbrev pub invariant-loop-version : goal.invariant-loop-version
invariant-loop-version l = find (is_rival l.tx l.write) l.versions ≡ find (is_rival l.tx l.write) (drop l.version-index l.versions)
