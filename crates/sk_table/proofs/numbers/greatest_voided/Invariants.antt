use Rattle.std.proofs.Common.{◌≡◌, drop, max}
use Rattle.std.specs.List.{fold}
use Rattle.sk_table.proofs.numbers.greatest_voided.Given as goal

-- The greatest so far and the numbers to come have the greatest of all.
abbrev pub invariant-loop-n : goal.invariant-loop-n
invariant-loop-n l = fold max l.top (drop l.n-index l.numbers) ≡ fold max 0 l.numbers
