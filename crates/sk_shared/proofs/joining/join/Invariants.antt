-- The commits so far, and those that are left to join, are all.
use Rattle.std.proofs.Common.{◌≡◌, ◌++◌}
use Rattle.sk_recorded.specs.Joined.{from_number, joined}
use Rattle.sk_shared.proofs.joining.join.Given as goal

abbrev pub invariant-loop-commit : goal.invariant-loop-commit
invariant-loop-commit l = (l.all ++ joined l.name l.points l.commit-iterator.rest.items ≡ joined l.name l.points l.fn.commits) × (l.walk.rest.now ≡ from_number l.name l.walk.last l.points)
