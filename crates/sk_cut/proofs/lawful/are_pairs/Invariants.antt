use Rattle.std.proofs.Common.{◌↔◌, length}
use Rattle.std.specs.List.{filter}
use Rattle.sk_log.specs.Lawful.{ArePairs, is_both}
use Rattle.sk_cut.proofs.lawful.are_pairs.Given as goal

-- what is left decides as all does
abbrev pub invariant-pairs : goal.invariant-pairs
invariant-pairs l = ArePairs (filter is_both l.ours) (filter is_both l.theirs) ↔ ArePairs (filter is_both l.store) (filter is_both l.mem)

abbrev pub decreases-pairs : goal.decreases-pairs
decreases-pairs l = length l.ours
