use Rattle.sk_chain.specs.Noting.{noted_stands}
use Rattle.sk_chain.specs.Applying.{IsInUse}
use Rattle.sk_store.proofs.tests.put_all.Given as goal

-- the engine may be asked on
abbrev pub invariant-loop-key : goal.invariant-loop-key
invariant-loop-key g l = record { in_use : IsInUse (noted_stands g.G.Engine.stands) l.engine }
