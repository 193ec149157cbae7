use Rattle.sk_chain.proofs.Journaled.{journal_is_legal}
use Rattle.sk_chain.proofs.laws.journal_is_legal.Goals as goal

pub returns : goal.returns
returns g c = journal_is_legal g.G.Engine.told g.G.Engine.faults g.G.Engine.stands
