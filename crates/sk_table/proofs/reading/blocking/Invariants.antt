use Rattle.std.proofs.Common.{◌≡◌, ◌&&◌, drop}
use Rattle.std.specs.List.{find}
use Rattle.sk_model.specs.Engine.{is_of}
use Rattle.sk_model.specs.EngineReplies.{is_blocking}
use Rattle.sk_table.proofs.reading.blocking.Given as goal

-- The first of those to come is the first of all.
abbrev pub invariant-loop-version : goal.invariant-loop-version
invariant-loop-version l =
    find (λ v. is_of l.table l.key v && is_blocking l.tx l.snapshot v) l.versions ≡ find (λ v. is_of l.table l.key v && is_blocking l.tx l.snapshot v) (drop l.version-index l.versions)
