use Rattle.std.proofs.Common.{◌≡◌, ◌++◌}
use Rattle.sk_ledger.specs.Numbered.{listed}
use Rattle.sk_ledger.proofs.numbering.in_order.Given as goal

-- The commits so far and those to come are all.
abbrev pub invariant-loop-commit : goal.invariant-loop-commit
invariant-loop-commit l = l.out ++ listed l.commit-iterator ≡ listed l.fn.numbered.entries
