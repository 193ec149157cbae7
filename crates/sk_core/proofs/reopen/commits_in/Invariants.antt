use Rattle.std.proofs.Common.{◌≡◌, ◌≤◌, length}
use Rattle.sk_core.specs.Reopening.{commits_onto, transactions_of}
use Rattle.sk_linked.specs.Traces.{commits_in}
use Rattle.sk_core.proofs.reopen.commits_in.Given as goal

-- The commits so far and those of the transactions that are left are all.
abbrev pub invariant-loop-left : goal.invariant-loop-left
invariant-loop-left l = record {
  all : commits_onto l.catalog l.name l.left l.commits ≡ commits_in l.catalog l.name (transactions_of l.actors);
  within : length l.left ≤ length l.actors;
}

abbrev pub decreases-loop-left : goal.decreases-loop-left
decreases-loop-left l = length l.left
