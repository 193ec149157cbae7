use Rattle.std.proofs.Common.{◌+◌, length, Ok, ap, sym, ◌∙◌}
use Rattle.std.proofs.lemmas.Result.{err_from_is_err_and}
use Rattle.sk_log.specs.Stores.{turns}
use Rattle.sk_recover.specs.declared.turn.LogPosition.{LogPosition as AnyReached}
use Rattle.sk_recover.specs.Views.{position_of}
use Rattle.sk_recover.proofs.Turning.{turned_wrong, turned_closed, turned_on, turned_out}
use Rattle.sk_recover.proofs.turn.turns.Goals as goal

pub returns-in_err-last-clause-value : goal.returns-in_err-last-clause-value
returns-in_err-last-clause-value c =
    let p = err_from_is_err_and c.from_residual.result c.from_residual.ensures.1 in
    let tables = c.args.tables.now in
    rw (p.1, p.2) (turned_wrong c.args.one.now c.args.two.now c.in_err-last.field-0.0 (length c.args.two.now + 1) c.loop.counter (position_of tables c.loop.reached) (turns (length c.args.two.now + 1) c.args.one.now c.args.two.now (position_of tables c.args.s)) c.loop-test.true c.in_err-last.ensures.value c.loop.invariant.same)

pub returns-in-Closed-clause-value : goal.returns-in-Closed-clause-value
returns-in-Closed-clause-value c =
    let tables = c.args.tables.now in
    let h = rw c.in-Closed.is at c.in_ok-last.ensures.value in
    turned_closed c.args.one.now c.args.two.now (length c.args.two.now + 1) c.loop.counter (position_of tables c.loop.reached) (turns (length c.args.two.now + 1) c.args.one.now c.args.two.now (position_of tables c.args.s)) c.loop-test.true h.0 c.loop.invariant.same
    ∙ ap (λ (r : AnyReached). Ok (position_of tables r)) (sym h.1)

pub loop-preserved : goal.loop-preserved
loop-preserved c =
    let tables = c.args.tables.now in
    let h = rw c.in-Went.is at c.in_ok-last.ensures.value in
    record {
      same = turned_on c.args.one.now c.args.two.now (length c.args.two.now + 1) c.loop.counter (position_of tables c.loop.reached) (position_of tables c.in-Went.next) (turns (length c.args.two.now + 1) c.args.one.now c.args.two.now (position_of tables c.args.s)) c.loop-test.true h c.loop.invariant.same;
      is = rw c.in-Went.is at c.in_ok-last.ensures.reached;
    }

pub returns-clause-value : goal.returns-clause-value
returns-clause-value c = rw c.fault_at.ensures
    (turned_out c.args.one.now c.args.two.now (length c.args.two.now + 1) c.loop.counter (position_of c.args.tables.now c.loop.reached) (turns (length c.args.two.now + 1) c.args.one.now c.args.two.now (position_of c.args.tables.now c.args.s)) c.loop-test.false c.loop.invariant.same)

pub returns-in-Closed-clause-reached : goal.returns-in-Closed-clause-reached
returns-in-Closed-clause-reached c = rw c.in-Closed.is at c.in_ok-last.ensures.reached
