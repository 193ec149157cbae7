use Rattle.std.proofs.Common.{◌≡◌, ◌+◌, ◌-◌, ◌++◌}
use Rattle.sk_script.specs.Generated.{stocked}
use Rattle.sk_script.proofs.generating.put_stock.Given as goal

-- The rows so far and those to come are all.
abbrev pub invariant-loop-i : goal.invariant-loop-i
invariant-loop-i l = l.lines ++ stocked (l.i + 1) (l.count - l.i) ≡ l.initial.lines ++ stocked 1 l.count
