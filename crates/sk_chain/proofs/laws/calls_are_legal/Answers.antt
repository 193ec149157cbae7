use Rattle.sk_chain.proofs.Legality.{calls_are_legal}
use Rattle.sk_chain.proofs.laws.calls_are_legal.Goals as goal

pub returns : goal.returns
returns g c = calls_are_legal g.G.Engine.told g.G.Engine.faults g.G.Engine.stands
