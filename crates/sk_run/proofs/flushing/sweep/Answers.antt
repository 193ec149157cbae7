use Rattle.sk_model.specs.declared.call.EngineCall.TheVariants as call
use Rattle.sk_run.proofs.Stands.{mem_stands, store_stands}
use Rattle.sk_run.proofs.Drifting.{drifts_on, oldest_drifts, flushed_drifts}
use Rattle.sk_run.proofs.flushing.sweep.Goals as goal

pub returns : goal.returns
returns c =
    drifts_on mem_stands store_stands c.args.shared.now c.oldest-oldest.new.self c.ask_for_nobody.new.self (oldest_drifts mem_stands store_stands c.args.shared.now c.oldest-oldest.new.self c.oldest-oldest.result c.oldest-oldest.ensures)
    (flushed_drifts mem_stands store_stands c.oldest-oldest.new.self c.ask_for_nobody.new.self c.args.name (call.Purge c.upto-upto.result) c.ask_for_nobody.result c.ask_for_nobody.ensures)

pub returns-in-Ok-Fault : goal.returns-in-Ok-Fault
returns-in-Ok-Fault c =
    drifts_on mem_stands store_stands c.args.shared.now c.oldest-oldest.new.self c.ask_for_nobody.new.self (oldest_drifts mem_stands store_stands c.args.shared.now c.oldest-oldest.new.self c.oldest-oldest.result c.oldest-oldest.ensures)
    (flushed_drifts mem_stands store_stands c.oldest-oldest.new.self c.ask_for_nobody.new.self c.args.name (call.Purge c.upto-upto.result) c.ask_for_nobody.result c.ask_for_nobody.ensures)

pub returns-in-Ok : goal.returns-in-Ok
returns-in-Ok c =
    drifts_on mem_stands store_stands c.args.shared.now c.oldest-oldest.new.self c.ask_for_nobody.new.self (oldest_drifts mem_stands store_stands c.args.shared.now c.oldest-oldest.new.self c.oldest-oldest.result c.oldest-oldest.ensures)
    (flushed_drifts mem_stands store_stands c.oldest-oldest.new.self c.ask_for_nobody.new.self c.args.name (call.Purge c.upto-upto.result) c.ask_for_nobody.result c.ask_for_nobody.ensures)
