use Rattle.sk_clock.specs.Of.{IsOf}
use Rattle.sk_clock.proofs.tests.the_first_partition_is_given_up_at_the_fourth_commit.Given as goal

abbrev pub invariant-loop : goal.invariant-loop
invariant-loop g l = IsOf l.clock l.one
