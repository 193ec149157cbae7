use Rattle.std.proofs.Common.{◌≡◌, ◌++◌}
use Rattle.std.specs.List.{AllByRecursion}
use Rattle.sk_recover.specs.Maps.{entries_of}
use Rattle.sk_recover.specs.Taking.{Rise}
use Rattle.sk_recover.proofs.rows.maps_of.Given as goal

-- The tables so far and those to come are all, and the keys of those to come rise.
abbrev pub invariant-loop-rows : goal.invariant-loop-rows
invariant-loop-rows l = record {
  all : entries_of l.maps.items ++ l.rows-iterator.rest.items ≡ l.fn.tables.items;
  rise : AllByRecursion Rise l.rows-iterator.rest.items;
}
