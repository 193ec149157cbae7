use Rattle.sk_text.proofs.Named.{one_more}
use Rattle.sk_text.proofs.report.labels_of.Goals as goal

pub loop-receipt-preserved : goal.loop-receipt-preserved
loop-receipt-preserved c = one_more c.loop-receipt.named c.insert.new.self c.args.receipts.now c.loop-receipt.receipt-index _ c.loop-receipt-test.true c.loop-receipt.invariant c.in_ok-insert.ensures.updates.0
