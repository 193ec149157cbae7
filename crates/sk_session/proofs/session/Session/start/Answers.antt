-- A statement keeps the talks of all records, and its line adds what it says.
use Rattle.std.specs.Option.{option_copied}
use Rattle.sk_session.proofs.Recorded.{start_talks}
use Rattle.sk_session.proofs.Printing.{start_prints}
use Rattle.sk_session.proofs.session.Session.start.Goals as goal

pub returns-clause-talks : goal.returns-clause-talks
returns-clause-talks c = start_talks c.args.catalog.now c.args.self.now (option_copied c.args.statement) c.start_statement.new.self c.start_statement.result c.start_statement.ensures

pub returns-clause-prints : goal.returns-clause-prints
returns-clause-prints c = start_prints c.args.catalog.now c.args.self.now (option_copied c.args.statement) c.start_statement.new.self c.start_statement.result c.start_statement.ensures
