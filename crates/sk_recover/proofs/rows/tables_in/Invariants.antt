use Rattle.std.proofs.Common.{◌≡◌, take}
use Rattle.sk_recover.specs.Maps.{entries_of}
use Rattle.sk_recover.proofs.rows.tables_in.Given as goal

-- The tables so far have the entries of their maps.
abbrev pub invariant-loop-map : goal.invariant-loop-map
invariant-loop-map l = l.tables ≡ entries_of (take l.map-index l.maps)
