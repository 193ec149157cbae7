-- An answer adds to the last talk just the call that was made, and goes on with the line that is answered.
use Rattle.sk_session.proofs.Recorded.{take_talks}
use Rattle.sk_session.proofs.Printing.{take_prints}
use Rattle.sk_session.proofs.session.Session.take.Goals as goal

pub returns-clause-talks : goal.returns-clause-talks
returns-clause-talks c = take_talks c.args.catalog.now c.args.self.now c.args.got c.take_answer.new.self c.take_answer.result c.take_answer.ensures

pub returns-clause-prints : goal.returns-clause-prints
returns-clause-prints c = take_prints c.args.catalog.now c.args.self.now c.args.got c.take_answer.new.self c.take_answer.result c.take_answer.ensures
