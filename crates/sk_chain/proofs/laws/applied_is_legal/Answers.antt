use Rattle.sk_chain.proofs.AppliedJournal.{applied_is_legal}
use Rattle.sk_chain.proofs.laws.applied_is_legal.Goals as goal

pub returns : goal.returns
returns g c = applied_is_legal g.G.Engine.told g.G.Engine.faults g.G.Engine.stands
