use Rattle.std.proofs.Common.{◌≡◌, ◌==◌, ◌&&◌, None, drop}
use Rattle.std.specs.Option.{option_copied}
use Rattle.std.specs.List.{filter}
use Rattle.sk_model.specs.EngineReplies.{is_blocking, least_key}
use Rattle.sk_table.proofs.reading.least_blocking.Given as goal

-- The least so far and those to come have the least of all.
abbrev pub invariant-loop-version : goal.invariant-loop-version
invariant-loop-version l =
    least_key (option_copied l.best) (filter (λ v. (v.write.table == l.table) && is_blocking l.tx l.snapshot v) (drop l.version-index l.versions))
    ≡ least_key None (filter (λ v. (v.write.table == l.table) && is_blocking l.tx l.snapshot v) l.versions)
