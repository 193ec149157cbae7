use Rattle.sk_points.specs.Stands.{Stands}
use Rattle.sk_points.proofs.tests.the_eighth_selection_gives_up_the_first_partition.Given as goal

abbrev pub invariant-loop-n : goal.invariant-loop-n
invariant-loop-n g l = Stands l.points
