use Rattle.std.proofs.Common.{◌≡◌, ◌≤◌, length}
use Rattle.sk_chain.specs.Reading.{newest}
use Rattle.sk_chain.proofs.chain.newest_upto.Given as goal

-- the newest of those that are left is the newest of all
abbrev pub invariant-loop-list : goal.invariant-loop-list
invariant-loop-list l = record {
  rest : newest l.snapshot l.list ≡ newest l.snapshot l.settled;
  within : length l.list ≤ length l.settled;
}

abbrev pub decreases-loop-list : goal.decreases-loop-list
decreases-loop-list l = length l.list
