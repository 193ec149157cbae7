use Rattle.sk_chain.specs.Noting.{noted_stands}
use Rattle.sk_chain.specs.Applying.{IsInUse}
use Rattle.sk_booked.proofs.tests.is_due.Given as goal

-- the engine may be asked on
abbrev pub invariant-loop-part : goal.invariant-loop-part
invariant-loop-part g l = record { in_use : IsInUse (noted_stands g.G.Engine.stands) l.engine }
