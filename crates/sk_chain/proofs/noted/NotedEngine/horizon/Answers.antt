use Rattle.sk_chain.specs.declared.noted.Noted.{Noted}
use Rattle.sk_chain.proofs.Serving.{serves_horizon}
use Rattle.sk_chain.proofs.noted.NotedEngine.horizon.Goals as goal

pub returns : goal.returns
returns g c = serves_horizon g.G.Engine.told g.G.Engine.faults g.G.Engine.stands (λ (s : Noted g.row.G.Denot). s.engine) (λ (s : Noted g.row.G.Denot). s.journal) c.args.self.now _ _ c.enter_horizon.ensures c.horizon-n.ensures
