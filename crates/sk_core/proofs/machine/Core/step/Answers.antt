-- What an event is answered in a state that a run leads to.
use Rattle.sk_core.proofs.Reaching.{answered}
use Rattle.sk_core.proofs.machine.Core.step.Goals as goal

pub returns-clause-answered : goal.returns-clause-answered
returns-clause-answered c = answered c.args.self.now c.args.event.now c.take.new.self c.take.result c.is_reached.ensures c.take.ensures
