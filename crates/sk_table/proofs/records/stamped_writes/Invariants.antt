use Rattle.std.proofs.Common.{◌≡◌, ◌++◌, drop, map}
use Rattle.std.specs.List.{filter}
use Rattle.sk_model.specs.EngineReplies.{is_stamped_with}
use Rattle.sk_table.proofs.records.stamped_writes.Given as goal

-- The writes so far with those to come are all.
abbrev pub invariant-loop-version : goal.invariant-loop-version
invariant-loop-version l =
    l.out ++ map (λ v. v.write) (filter (is_stamped_with l.n) (drop l.version-index l.versions)) ≡ map (λ v. v.write) (filter (is_stamped_with l.n) l.versions)
