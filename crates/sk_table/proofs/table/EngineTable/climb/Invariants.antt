use Rattle.std.proofs.Common.{◌≡◌}
use Rattle.sk_model.specs.EngineReplies.{climb, is_used}
use Rattle.sk_table.proofs.table.EngineTable.climb.Given as goal

-- From here on it goes as far as from the beginning.
abbrev pub invariant-loop-left : goal.invariant-loop-left
invariant-loop-left l = climb l.left (is_used l.self) l.n ≡ climb l.fn.times (is_used l.self) l.fn.from

abbrev pub decreases-loop-left : goal.decreases-loop-left
decreases-loop-left l = l.left
