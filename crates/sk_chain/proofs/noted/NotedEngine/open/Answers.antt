use Rattle.sk_chain.specs.declared.noted.Noted.{Noted}
use Rattle.std.proofs.Common.{sym, ◌∙◌}
use Rattle.sk_chain.proofs.Serving.{serves_opened, serves_refused}
use Rattle.sk_chain.proofs.noted.NotedEngine.open.Goals as goal

pub returns-then-is_err : goal.returns-then-is_err
returns-then-is_err g c = serves_refused g.G.Engine.told g.G.Engine.faults g.G.Engine.stands (λ (s : Noted g.row.G.Denot). s.engine) (λ (s : Noted g.row.G.Denot). s.journal) c.args.self.now _ c.take_room.new.self c.note.new.journal c.args.tx c.args.snapshot _ c.open-answer.result c.done.result (sym c.is_err.ensures.value ∙ c.if-is_err.true) c.in_ok-take_room.ensures.ok c.done.ensures c.note.ensures c.give_room.ensures c.open-answer.ensures

pub returns-else-is_err : goal.returns-else-is_err
returns-else-is_err g c = serves_opened g.G.Engine.told g.G.Engine.faults g.G.Engine.stands (λ (s : Noted g.row.G.Denot). s.engine) (λ (s : Noted g.row.G.Denot). s.journal) c.args.self.now _ c.take_room.new.self c.args.tx c.args.snapshot _ c.done.result c.in_ok-take_room.ensures.ok c.done.ensures c.note.ensures c.open-answer.ensures
