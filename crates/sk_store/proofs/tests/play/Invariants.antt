use Rattle.sk_chain.specs.Noting.{noted_stands}
use Rattle.sk_chain.specs.Applying.{IsInUse}
use Rattle.sk_store.proofs.tests.play.Given as goal

-- the engine may be asked on
abbrev pub invariant-loop-ask : goal.invariant-loop-ask
invariant-loop-ask g l = record { in_use : IsInUse (noted_stands g.G.Engine.stands) l.engine }
