-- There was a script, and it was played; or there was none.
use Rattle.sk_serial.proofs.Whole.{halts_unread}
use Rattle.sk_serial.proofs.running.play_source.Goals as goal

pub returns-in-Err-clause-halted : goal.returns-in-Err-clause-halted
returns-in-Err-clause-halted g c = halts_unread g.D.Device.disk g.D.Device.faults c.args.transfers (g.S.Source.left c.args.source.now) (g.S.Source.left c.script_for.new.source) c.args.disk c.in-Err.fault c.in-Err.ensures.why
