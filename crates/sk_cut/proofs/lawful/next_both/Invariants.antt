use Rattle.std.proofs.Common.{◌≡◌, ◌≤◌, length}
use Rattle.std.specs.List.{filter}
use Rattle.sk_log.specs.Lawful.{is_both}
use Rattle.sk_cut.proofs.lawful.next_both.Given as goal

-- none of those that were passed over is of both engines
abbrev pub invariant-loop-left : goal.invariant-loop-left
invariant-loop-left l = (filter is_both l.left ≡ filter is_both l.commits) × (length l.left ≤ length l.commits)

abbrev pub decreases-loop-left : goal.decreases-loop-left
decreases-loop-left l = length l.left
