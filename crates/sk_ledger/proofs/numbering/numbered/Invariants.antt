use Rattle.std.proofs.Common.{◌≡◌, ◌-◌, ◌≤◌, length}
use Rattle.sk_ledger.specs.Numbered.{commits_onto, commits_from, listed, AreNumbered}
use Rattle.sk_ledger.proofs.numbering.numbered.Given as goal

-- The commits so far and those of the records that are left are all, and each has come already.
abbrev pub invariant-loop-left : goal.invariant-loop-left
invariant-loop-left l = record {
  all : commits_onto l.puts.entries l.name l.left (listed l.numbered.entries) ≡ commits_from l.puts.entries l.name l.records;
  numbered : AreNumbered l.name (length l.records - length l.left) l.numbered.entries;
  within : length l.left ≤ length l.records;
}

abbrev pub decreases-loop-left : goal.decreases-loop-left
decreases-loop-left l = length l.left
