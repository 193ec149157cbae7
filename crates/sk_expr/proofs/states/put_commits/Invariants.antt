use Rattle.std.proofs.Common.{◌≡◌, drop}
use Rattle.sk_model.specs.Database.{state}
use Rattle.sk_expr.proofs.states.put_commits.Given as goal

-- The commits to come make of the tables what all commits make of them.
abbrev pub invariant-loop-commit : goal.invariant-loop-commit
invariant-loop-commit l = state l.tables.items (drop l.commit-index l.commits) ≡ state l.initial.tables.items l.commits
