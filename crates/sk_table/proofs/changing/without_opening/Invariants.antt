use Rattle.std.proofs.Common.{◌≡◌, ◌++◌}
use Rattle.sk_model.specs.EngineChanges.{without_opening}
use Rattle.sk_table.proofs.changing.without_opening.Given as goal

-- The openings so far with those to come are all that stay.
abbrev pub invariant-loop-opening : goal.invariant-loop-opening
invariant-loop-opening l = l.out.items ++ without_opening l.tx l.opening-iterator.rest.items ≡ without_opening l.tx l.initial.opening-iterator.rest.items
