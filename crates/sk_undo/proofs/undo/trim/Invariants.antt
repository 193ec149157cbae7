use Rattle.std.proofs.Common.{◌≡◌, ◌++◌, take, drop, map}
use Rattle.sk_undo.specs.Log.{trimmed}
use Rattle.sk_undo.proofs.undo.trim.Given as goal

abbrev pub invariant-loop-at : goal.invariant-loop-at
invariant-loop-at l = l.slots.items ≡ map (trimmed l.upto) (take l.at l.fn.slots.items) ++ drop l.at l.fn.slots.items
