use Rattle.std.proofs.Common.{◌≡◌, drop}
use Rattle.std.specs.FinMap.{find}
use Rattle.sk_table.proofs.entries.find.Given as goal

-- What is found in the entries to come is what is found in all.
abbrev pub invariant-loop-entry : goal.invariant-loop-entry
invariant-loop-entry g l = find g.K.Ord.cmp l.key l.entries ≡ find g.K.Ord.cmp l.key (drop l.entry-index l.entries)
