use Rattle.std.proofs.Common.{◌≡◌, ◌++◌, ◌&&◌, nat_lt, nat_le, drop, map}
use Rattle.std.specs.List.{filter}
use Rattle.sk_model.specs.EngineReplies.{commit_of, commits_between}
use Rattle.sk_table.proofs.table.EngineTable.commits_between.Given as goal

-- The commits so far with those to come are all.
abbrev pub invariant-loop-entry : goal.invariant-loop-entry
invariant-loop-entry l =
    l.out ++ map (commit_of l.self) (filter (λ p. nat_lt l.from p.0 && nat_le p.0 l.to) (drop l.entry-index l.self.stamped)) ≡ commits_between l.self l.from l.to
