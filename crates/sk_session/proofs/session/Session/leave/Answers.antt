-- Leaving keeps the talks of all records, and their facts, and adds no statement.
use Rattle.sk_session.proofs.Recorded.{leave_talks}
use Rattle.sk_session.proofs.Changed.{leave_facts}
use Rattle.sk_session.proofs.Printing.{leave_prints}
use Rattle.sk_session.proofs.session.Session.leave.Goals as goal

pub returns-clause-talks : goal.returns-clause-talks
returns-clause-talks c = leave_talks c.args.self.now c.leave_now.new.self c.leave_now.result c.leave_now.ensures

pub returns-clause-facts : goal.returns-clause-facts
returns-clause-facts c = leave_facts c.args.self.now c.leave_now.new.self c.leave_now.result c.leave_now.ensures

pub returns-clause-prints : goal.returns-clause-prints
returns-clause-prints c = leave_prints c.args.self.now c.leave_now.new.self c.leave_now.result c.leave_now.ensures
