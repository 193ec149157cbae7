use Rattle.std.proofs.Common.{◌≡◌, ◌++◌, drop}
use Rattle.sk_core.proofs.copies.same_did.Given as goal

-- The items so far with those to come are all.
abbrev pub invariant-loop-item : goal.invariant-loop-item
invariant-loop-item l = l.out.items ++ drop l.item-index l.items ≡ l.items
