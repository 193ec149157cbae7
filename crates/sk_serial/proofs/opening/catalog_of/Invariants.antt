use Rattle.std.proofs.Common.{◌≡◌, ◌++◌, map, length}
use Rattle.sk_script.specs.Tables.{CanAdd}
use Rattle.sk_serial.proofs.opening.catalog_of.Given as goal

-- The tables so far and those to come are all of them, and a catalog takes those to come.
abbrev pub invariant-loop-rest : goal.invariant-loop-rest
invariant-loop-rest l = record {
  all : l.catalog ++ map (λ x. x.table) l.rest ≡ map (λ x. x.table) l.fn.lines;
  can : CanAdd l.catalog (map (λ x. x.table) l.rest);
}

abbrev pub decreases-loop-rest : goal.decreases-loop-rest
decreases-loop-rest l = length l.rest
