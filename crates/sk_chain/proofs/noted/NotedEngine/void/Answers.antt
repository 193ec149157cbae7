use Rattle.sk_chain.specs.declared.noted.Noted.{Noted}
use Rattle.sk_model.specs.declared.call.EngineCall.TheVariants as call
use Rattle.std.proofs.Common.{refl}
use Rattle.sk_model.proofs.Openings.{there_to_end}
use Rattle.sk_chain.proofs.Serving.{serves_ended}
use Rattle.sk_chain.proofs.noted.NotedEngine.void.Goals as goal

pub returns : goal.returns
returns g c = serves_ended g.G.Engine.told g.G.Engine.faults g.G.Engine.stands (λ (s : Noted g.row.G.Denot). s.engine) (λ (s : Noted g.row.G.Denot). s.journal) c.args.self.now _ (call.Void c.args.tx c.args.n) c.args.tx refl (λ e m. there_to_end e c.args.tx c.args.n m) (λ e. refl) c.note.ensures c.void.ensures
