use Rattle.sk_chain.specs.declared.noted.Noted.{Noted}
use Rattle.sk_model.specs.declared.call.EngineCall.TheVariants as call
use Rattle.std.proofs.Common.{refl}
use Rattle.sk_chain.proofs.Serving.{serves_ended}
use Rattle.sk_chain.proofs.noted.NotedEngine.drop_tx.Goals as goal

pub returns : goal.returns
returns g c = serves_ended g.G.Engine.told g.G.Engine.faults g.G.Engine.stands (λ (s : Noted g.row.G.Denot). s.engine) (λ (s : Noted g.row.G.Denot). s.journal) c.args.self.now _ (call.DropTx c.args.tx) c.args.tx refl (λ e m. m) (λ e. refl) c.note.ensures c.drop_tx.ensures
