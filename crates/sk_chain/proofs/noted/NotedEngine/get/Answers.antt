use Rattle.sk_chain.specs.declared.noted.Noted.{Noted}
use Rattle.sk_model.specs.declared.call.EngineCall.TheVariants as call
use Rattle.std.proofs.Common.{refl, ap, ◌∙◌, arith}
use Rattle.sk_chain.specs.Noting.{noted}
use Rattle.sk_chain.proofs.Serving.{serves_noted, given_back}
use Rattle.sk_chain.proofs.noted.NotedEngine.get.Goals as goal

pub returns-in-Ok : goal.returns-in-Ok
returns-in-Ok g c = serves_noted g.G.Engine.told g.G.Engine.faults g.G.Engine.stands (λ (s : Noted g.row.G.Denot). s.engine) (λ (s : Noted g.row.G.Denot). s.journal) c.args.self.now _ c.take_room.new.self (call.Get c.args.tx c.args.table c.args.key.now) _ c.in-Ok.reply refl c.in_ok-take_room.ensures.ok (λ e h. omega arith) c.in-Ok.ensures
    (c.note.ensures ∙ ap (λ k. noted c.take_room.new.self (call.Get c.args.tx c.args.table k) c.in-Ok.reply) c.in_ok-copy.ensures) c.get-answer.ensures

pub returns-in-Err : goal.returns-in-Err
returns-in-Err g c = given_back g.G.Engine.told g.G.Engine.faults g.G.Engine.stands (λ (s : Noted g.row.G.Denot). s.engine) (λ (s : Noted g.row.G.Denot). s.journal) c.args.self.now _ c.take_room.new.self (call.Get c.args.tx c.args.table c.args.key.now) _ c.in_ok-take_room.ensures.ok (λ e. refl) c.give_room.ensures c.get-answer.ensures
