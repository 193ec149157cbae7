use Rattle.sk_model.specs.declared.call.EngineCall.TheVariants as call
use Rattle.sk_run.proofs.Stands.{mem_stands, store_stands}
use Rattle.sk_run.proofs.Drifting.{flushed_drifts}
use Rattle.sk_run.proofs.flushing.records.Goals as goal

pub returns-in-Ok-Commits-clause-drifts : goal.returns-in-Ok-Commits-clause-drifts
returns-in-Ok-Commits-clause-drifts c =
    flushed_drifts mem_stands store_stands c.args.shared.now c.ask_for_nobody.new.self c.args.name (call.Records c.args.from c.args.to) c.ask_for_nobody.result c.ask_for_nobody.ensures

pub returns-in-Ok-Fault-NoMemory-clause-drifts : goal.returns-in-Ok-Fault-NoMemory-clause-drifts
returns-in-Ok-Fault-NoMemory-clause-drifts c =
    flushed_drifts mem_stands store_stands c.args.shared.now c.ask_for_nobody.new.self c.args.name (call.Records c.args.from c.args.to) c.ask_for_nobody.result c.ask_for_nobody.ensures

pub returns-clause-drifts : goal.returns-clause-drifts
returns-clause-drifts c = flushed_drifts mem_stands store_stands c.args.shared.now c.ask_for_nobody.new.self c.args.name (call.Records c.args.from c.args.to) c.ask_for_nobody.result c.ask_for_nobody.ensures
