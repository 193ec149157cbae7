use Rattle.sk_chain.specs.declared.noted.Noted.{Noted}
use Rattle.sk_model.specs.declared.call.EngineCall.TheVariants as call
use Rattle.std.proofs.Common.{refl, arith}
use Rattle.sk_chain.proofs.Serving.{serves_noted}
use Rattle.sk_chain.proofs.noted.NotedEngine.purge.Goals as goal

pub returns : goal.returns
returns g c = serves_noted g.G.Engine.told g.G.Engine.faults g.G.Engine.stands (λ (s : Noted g.row.G.Denot). s.engine) (λ (s : Noted g.row.G.Denot). s.journal) c.args.self.now _ c.take_room.new.self (call.Purge c.args.upto) _ c.number.result refl c.in_ok-take_room.ensures.ok (λ e h. omega arith) c.number.ensures c.note.ensures c.purge-answer.ensures
