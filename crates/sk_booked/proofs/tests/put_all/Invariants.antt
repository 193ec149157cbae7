use Rattle.sk_booked.specs.Of.{view, IsOf}
use Rattle.sk_booked.specs.Answers.{IsSamePass}
use Rattle.sk_booked.proofs.tests.put_all.Given as goal

-- it is the pass that was handed in
abbrev pub invariant-loop-key : goal.invariant-loop-key
invariant-loop-key g l = record {
  of : IsOf l.fn.book l.pass;
  same : IsSamePass (view l.fn.pass) (view l.pass);
}
