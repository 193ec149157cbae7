use Rattle.std.proofs.Common.{◌≡◌, drop}
use Rattle.sk_model.specs.Database.{state}
use Rattle.sk_core.proofs.reopen.after_commits.Given as goal

-- The commits to come leave what all of them leave.
abbrev pub invariant-loop-commit : goal.invariant-loop-commit
invariant-loop-commit l = state l.tables (drop l.commit-index l.commits) ≡ state l.fn.rows l.commits
