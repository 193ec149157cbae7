use Rattle.sk_points.specs.Stands.{Stands}
use Rattle.sk_points.proofs.tests.calls_are_answered_by_the_rules.Given as goal

abbrev pub invariant-loop-call : goal.invariant-loop-call
invariant-loop-call g l = Stands l.points
