use Rattle.std.proofs.Common.{◌≡◌, ◌+◌, drop}
use Rattle.sk_table.specs.Entries.{count_below}
use Rattle.sk_table.proofs.entries.count_below.Given as goal

-- The entries before this one are all lesser, so the run goes on from here.
abbrev pub invariant-loop-entry : goal.invariant-loop-entry
invariant-loop-entry g l = record {
  counted : l.count ≡ l.entry-index;
  goes_on : count_below g.K.Ord.cmp l.key l.entries ≡ l.entry-index + count_below g.K.Ord.cmp l.key (drop l.entry-index l.entries);
}
