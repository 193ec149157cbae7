-- With a place more nobody is queued.
use Rattle.std.proofs.Common.{ap}
use Rattle.sk_durable.specs.Kept.{Kept}
use Rattle.sk_serial.proofs.Waiting.{keeps_same}
use Rattle.sk_serial.proofs.playing.reserved.Goals as goal

pub returns-in-Ok-clause-queue : goal.returns-in-Ok-clause-queue
returns-in-Ok-clause-queue g c = keeps_same c.args.store c.reserve.new.self (ap (λ (k : Kept _). k.queued) c.in-Ok.ensures.more) (ap (λ (k : Kept _). k.waiting) c.in-Ok.ensures.more) (ap (λ (k : Kept _). k.receipts) c.in-Ok.ensures.more)
