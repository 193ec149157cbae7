use Rattle.sk_booked.proofs.Callers.{answered_same}
use Rattle.sk_booked.proofs.tests.ask.Goals as goal

pub returns-clause-same : goal.returns-clause-same
returns-clause-same g c =
    answered_same g.V.Journaled.journal g.V.Journaled.gives g.V.Journaled.enters g.V.Journaled.leaves c.args.pass.now.seat.me.0 c.args.call c.call.result c.call.new.pass.seat.me.0 c.call.ensures.answered
