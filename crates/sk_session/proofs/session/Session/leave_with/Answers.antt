-- The session was left, and was carried on.
use Rattle.std.proofs.lemmas.Result.{IfOk-weaker}
use Rattle.sk_session.proofs.Exchanging.{leave_fits}
use Rattle.sk_session.proofs.Conversed.{left_prints, left_stands}
use Rattle.sk_session.proofs.Over.{left_stays, left_rests}
use Rattle.sk_session.proofs.session.Session.leave_with.Goals as goal

pub carry_on-requires : goal.carry_on-requires
carry_on-requires g c = leave_fits c.args.self.now c.leave-begun.new.self c.leave-begun.result c.leave-begun.ensures.moves

pub returns-clause-stands : goal.returns-clause-stands
returns-clause-stands g c =
    IfOk-weaker c.carry_on.result _ _
    (λ said r. left_stands g.K.Desk.answers c.args.catalog.now c.args.self.now c.leave-begun.new.self c.leave-begun.result c.args.desk.now c.carry_on.new.session c.carry_on.new.desk said r c.leave-begun.ensures.moves)
    c.carry_on.ensures

pub returns-clause-prints : goal.returns-clause-prints
returns-clause-prints g c =
    IfOk-weaker c.carry_on.result _ _
    (λ said r. left_prints g.K.Desk.answers c.args.catalog.now c.args.self.now c.leave-begun.new.self c.leave-begun.result c.args.desk.now c.carry_on.new.session c.carry_on.new.desk said r c.leave-begun.ensures.moves)
    c.carry_on.ensures

pub returns-clause-over : goal.returns-clause-over
returns-clause-over g c =
    IfOk-weaker c.carry_on.result _ _
    (λ said r. left_stays g.K.Desk.answers c.args.catalog.now c.args.self.now c.leave-begun.new.self c.leave-begun.result c.args.desk.now c.carry_on.new.session c.carry_on.new.desk said r c.leave-begun.ensures.moves)
    c.carry_on.ensures

pub returns-clause-rests : goal.returns-clause-rests
returns-clause-rests g c =
    IfOk-weaker c.carry_on.result _ _
    (λ said r. left_rests g.K.Desk.answers c.args.catalog.now c.args.self.now c.leave-begun.new.self c.leave-begun.result c.args.desk.now c.carry_on.new.session c.carry_on.new.desk said r c.leave-begun.ensures.moves)
    c.carry_on.ensures
