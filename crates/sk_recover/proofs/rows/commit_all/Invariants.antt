use Rattle.std.proofs.Common.{◌≡◌}
use Rattle.sk_model.specs.Database.{state}
use Rattle.sk_recover.specs.Maps.{entries_of}
use Rattle.sk_recover.proofs.rows.commit_all.Given as goal

-- The commits to come leave what all of them leave.
abbrev pub invariant-loop-commit : goal.invariant-loop-commit
invariant-loop-commit l = state (entries_of l.tables.items) l.commit-iterator.rest.items ≡ state (entries_of l.initial.tables.items) l.fn.commits
