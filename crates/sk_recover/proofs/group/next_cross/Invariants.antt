use Rattle.std.proofs.Common.{◌≡◌, ◌≤◌, length}
use Rattle.std.specs.List.{filter}
use Rattle.sk_log.specs.Groups.{is_cross}
use Rattle.sk_recover.proofs.group.next_cross.Given as goal

-- none of those that were passed over is of both engines
abbrev pub invariant-loop-left : goal.invariant-loop-left
invariant-loop-left l = (filter is_cross l.left ≡ filter is_cross l.logged) × (length l.left ≤ length l.logged)

abbrev pub decreases-loop-left : goal.decreases-loop-left
decreases-loop-left l = length l.left
