-- The session began with the statement, and was carried on.
use Rattle.std.specs.Option.{option_copied}
use Rattle.std.proofs.lemmas.Result.{IfOk-weaker}
use Rattle.sk_session.proofs.Exchanging.{start_fits}
use Rattle.sk_session.proofs.Conversed.{line_prints}
use Rattle.sk_session.proofs.Obeyed.{line_refuses}
use Rattle.sk_session.proofs.Over.{line_stays, line_rests}
use Rattle.sk_session.proofs.desk.converse.Goals as goal

pub carry_on-requires : goal.carry_on-requires
carry_on-requires g c = start_fits c.args.catalog.now c.args.session.now (option_copied c.args.statement) c.start-begun.new.self c.start-begun.result c.start-begun.ensures.moves

pub returns-clause-prints : goal.returns-clause-prints
returns-clause-prints g c =
    IfOk-weaker c.carry_on.result _ _
    (λ said r. line_prints g.K.Desk.answers c.args.catalog.now c.args.session.now c.start-begun.new.self c.start-begun.result c.args.desk.now c.carry_on.new.session c.carry_on.new.desk said r (option_copied c.args.statement) c.start-begun.ensures.moves)
    c.carry_on.ensures

pub returns-clause-refuses : goal.returns-clause-refuses
returns-clause-refuses g c =
    IfOk-weaker c.carry_on.result _ _
    (λ said r. line_refuses g.K.Desk.answers c.args.catalog.now c.args.session.now c.start-begun.new.self c.start-begun.result c.args.desk.now c.carry_on.new.session c.carry_on.new.desk said r (option_copied c.args.statement) c.start-begun.ensures.moves)
    c.carry_on.ensures

pub returns-clause-over : goal.returns-clause-over
returns-clause-over g c =
    IfOk-weaker c.carry_on.result _ _
    (λ said r. line_stays g.K.Desk.answers c.args.catalog.now c.args.session.now c.start-begun.new.self c.start-begun.result c.args.desk.now c.carry_on.new.session c.carry_on.new.desk said r (option_copied c.args.statement) c.start-begun.ensures.moves)
    c.carry_on.ensures

pub returns-clause-rests : goal.returns-clause-rests
returns-clause-rests g c = λ none.
    IfOk-weaker c.carry_on.result _ _
    (λ said r. line_rests g.K.Desk.answers c.args.catalog.now c.args.session.now c.start-begun.new.self c.start-begun.result c.args.desk.now c.carry_on.new.session c.carry_on.new.desk said r (option_copied c.args.statement) c.start-begun.ensures.moves none)
    c.carry_on.ensures
