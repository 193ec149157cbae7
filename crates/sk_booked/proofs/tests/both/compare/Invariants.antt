use Rattle.sk_chain.specs.Noting.{noted_stands}
use Rattle.sk_chain.specs.Applying.{IsInUse}
use Rattle.sk_booked.proofs.tests.both.compare.Given as goal

-- both engines may be asked on
abbrev pub invariant-loop-ask : goal.invariant-loop-ask
invariant-loop-ask g l = record {
  one : IsInUse (noted_stands g.G.Engine.stands) l.one;
  two : IsInUse (noted_stands g.H.Engine.stands) l.two;
}
