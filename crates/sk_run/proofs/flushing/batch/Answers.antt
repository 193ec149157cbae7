-- Each call goes on from the one before, and both engines told their commits up to the cut.
use Rattle.std.proofs.Common.{Option, inr, sym, subst, ◌∙◌}
use Rattle.sk_model.specs.declared.point.Point.{Point}
use Rattle.sk_run.specs.Flushing.{FindsPoint}
use Rattle.sk_run.proofs.Stands.{mem_stands, store_stands}
use Rattle.sk_run.proofs.Drifting.{drifts_on}
use Rattle.sk_run.proofs.Finding.{flushes_on}
use Rattle.sk_run.proofs.Reaching.{reaches_on}
use Rattle.sk_run.proofs.flushing.batch.Goals as goal

pub returns-in_err-mem-clause-drifts : goal.returns-in_err-mem-clause-drifts
returns-in_err-mem-clause-drifts c = drifts_on mem_stands store_stands c.args.shared.now c.find_cut.new.shared c.joined.new.shared c.find_cut.ensures.drifts c.joined.ensures.drifts

pub returns-in_err-store-clause-drifts : goal.returns-in_err-store-clause-drifts
returns-in_err-store-clause-drifts c =
    drifts_on mem_stands store_stands c.args.shared.now c.find_cut.new.shared c.joined-2.new.shared c.find_cut.ensures.drifts
    (drifts_on mem_stands store_stands c.find_cut.new.shared c.joined.new.shared c.joined-2.new.shared c.joined.ensures.drifts c.joined-2.ensures.drifts)

pub returns-clause-drifts : goal.returns-clause-drifts
returns-clause-drifts c =
    drifts_on mem_stands store_stands c.args.shared.now c.find_cut.new.shared c.joined-2.new.shared c.find_cut.ensures.drifts
    (drifts_on mem_stands store_stands c.find_cut.new.shared c.joined.new.shared c.joined-2.new.shared c.joined.ensures.drifts c.joined-2.ensures.drifts)

pub returns-clause-found : goal.returns-clause-found
returns-clause-found c = inr
    (flushes_on mem_stands store_stands c.args.shared.now c.find_cut.new.shared c.joined.new.shared c.joined-2.new.shared c.args.durable c.in-Some.cut c.in_ok-mem.mem c.in_ok-store.store (c.is_past.ensures.past c.if-is_past.true) c.find_cut.ensures.drifts
    (subst (λ (o : Option Point). FindsPoint mem_stands store_stands c.args.shared.now o c.find_cut.new.shared) c.in-Some.is c.in_ok-cut.ensures.point) c.in_ok-mem.ensures.joins c.in_ok-store.ensures.joins)

pub returns-clause-reaches : goal.returns-clause-reaches
returns-clause-reaches c = reaches_on mem_stands store_stands c.args.shared.now c.args.durable c.in-Some.cut c.in_ok-cut.field-0 c.in-Some.is (sym c.is_past.ensures.value ∙ c.if-is_past.true) c.in_ok-cut.ensures.reaches
