use Rattle.std.proofs.Common.{◌≡◌, ◌≤◌, length}
use Rattle.sk_script.specs.Words.{amount}
use Rattle.sk_script.proofs.words.amount.Given as goal

-- What the digits so far come to is not past the limit, and the others go on from there.
abbrev pub invariant-loop-rest : goal.invariant-loop-rest
invariant-loop-rest l = record { goes_on : amount l.n l.rest ≡ amount 0 l.digits; low : l.n ≤ l.most }

abbrev pub decreases-loop-rest : goal.decreases-loop-rest
decreases-loop-rest l = length l.rest
