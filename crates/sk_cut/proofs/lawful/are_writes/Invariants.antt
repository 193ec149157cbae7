use Rattle.std.proofs.Common.{◌↔◌, length}
use Rattle.std.specs.List.{AllByRecursion}
use Rattle.sk_codec.specs.Spelling.{IsWrite}
use Rattle.sk_cut.proofs.lawful.are_writes.Given as goal

-- what is left decides as all does
abbrev pub invariant-loop-left : goal.invariant-loop-left
invariant-loop-left l = AllByRecursion (IsWrite l.tables l.store) l.left ↔ AllByRecursion (IsWrite l.tables l.store) l.writes

abbrev pub decreases-loop-left : goal.decreases-loop-left
decreases-loop-left l = length l.left
