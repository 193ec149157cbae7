-- Every image opens over the tables that were read.
use Rattle.std.specs.String.{string_bytes}
use Rattle.std.proofs.Common.{ap}
use Rattle.sk_durable.specs.Kept.{Kept}
use Rattle.sk_run.proofs.Stands.{mem_stands, store_stands}
use Rattle.sk_serial.proofs.Opened.{opens_over}
use Rattle.sk_serial.proofs.Plays.{plays_none}
use Rattle.sk_serial.proofs.beginning.begin.Goals as goal

pub new-requires-clause-over : goal.new-requires-clause-over
new-requires-clause-over g c tells image left = opens_over c.args.stored.opened image (c.requires.opened.stands tells image left)

pub returns-clause-begun : goal.returns-clause-begun
returns-clause-begun g c = plays_none g.D.Device.disk mem_stands store_stands c.args.stored.opened c.args.stored.disk c.in-Ok.run' (string_bytes c.new-2.result) c.new.result c.in-Ok.ensures.kept c.in-Ok.ensures.refused
    c.in-Ok.ensures.tables c.in-Ok.ensures.sessions c.new-2.ensures.bytes (ap (λ (k : Kept _). k.disk) c.new.ensures) (ap (λ (k : Kept _). k.cut) c.new.ensures) (ap (λ (k : Kept _). k.receipts) c.new.ensures) (ap (λ (k : Kept _). k.queued) c.new.ensures) c.in-Ok.ensures.over
