use Rattle.std.proofs.Common.{◌≡◌, drop, max}
use Rattle.std.specs.List.{fold}
use Rattle.sk_table.proofs.numbers.greatest_stamped.Given as goal

-- The greatest so far and the numbers to come have the greatest of all.
abbrev pub invariant-loop-entry : goal.invariant-loop-entry
invariant-loop-entry l = fold (λ m p. max m p.0) l.top (drop l.entry-index l.stamped) ≡ fold (λ m p. max m p.0) l.fn.from l.stamped
