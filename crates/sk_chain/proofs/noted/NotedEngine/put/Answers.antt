use Rattle.sk_chain.specs.declared.noted.Noted.{Noted}
use Rattle.sk_model.specs.declared.call.EngineCall.TheVariants as call
use Rattle.std.proofs.Common.{refl, ap, ◌∙◌, arith}
use Rattle.sk_chain.specs.Noting.{noted}
use Rattle.sk_chain.proofs.Serving.{serves_noted}
use Rattle.sk_chain.proofs.noted.NotedEngine.put.Goals as goal

pub returns : goal.returns
returns g c = serves_noted g.G.Engine.told g.G.Engine.faults g.G.Engine.stands (λ (s : Noted g.row.G.Denot). s.engine) (λ (s : Noted g.row.G.Denot). s.journal) c.args.self.now _ c.take_room.new.self (call.Put c.args.tx c.args.table c.args.key.now c.args.row) _ c.done.result refl c.in_ok-take_room.ensures.ok (λ e h. omega arith) c.done.ensures
    (c.note.ensures ∙ ap (λ k. noted c.take_room.new.self (call.Put c.args.tx c.args.table k c.in_ok-copy-2.field-0) c.done.result) c.in_ok-copy.ensures ∙ ap (λ r. noted c.take_room.new.self (call.Put c.args.tx c.args.table c.args.key.now r) c.done.result) c.in_ok-copy-2.ensures) c.put-answer.ensures
