use Rattle.std.proofs.Common.{◌≡◌, ◌++◌, drop}
use Rattle.sk_places.specs.Marks.{marks}
use Rattle.sk_places.proofs.marks.marks_of.Given as goal

-- The marks so far and those of the rest are those of all.
abbrev pub invariant-loop-i : goal.invariant-loop-i
invariant-loop-i l = l.all.items ++ marks l.name l.i (drop l.i l.order) ≡ marks l.name 0 l.order
