use Rattle.sk_clock.specs.Of.{IsOf}
use Rattle.sk_clock.proofs.tests.an_older_anchor_is_found_among_200_points.Given as goal

abbrev pub invariant-loop-n : goal.invariant-loop-n
invariant-loop-n g l = IsOf l.clock l.one
