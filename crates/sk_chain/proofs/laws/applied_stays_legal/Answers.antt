use Rattle.sk_chain.proofs.Applied.{applied_stays_legal}
use Rattle.sk_chain.proofs.laws.applied_stays_legal.Goals as goal

pub returns : goal.returns
returns g c = applied_stays_legal g.G.Engine.told g.G.Engine.faults g.G.Engine.stands
