use Rattle.std.proofs.Common.{◌↔◌, length}
use Rattle.sk_cut.specs.Tested.{AreTested}
use Rattle.sk_cut.proofs.lawful.are_records.Given as goal

-- what is left decides as all does
abbrev pub invariant-loop-left : goal.invariant-loop-left
invariant-loop-left l = AreTested l.tables l.store l.upto l.last l.left ↔ AreTested l.tables l.store l.upto l.above l.commits

abbrev pub decreases-loop-left : goal.decreases-loop-left
decreases-loop-left l = length l.left
