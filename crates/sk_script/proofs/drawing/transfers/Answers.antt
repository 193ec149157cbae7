use Rattle.sk_script.proofs.Making.{one_drawn}
use Rattle.sk_script.proofs.drawing.transfers.Goals as goal

pub loop-i-preserved : goal.loop-i-preserved
loop-i-preserved c =
    one_drawn c.loop-i.made.items _ _ c.loop-i.last c.draw-p.result c.draw-q.result c.draw-r.result c.args.n c.loop-i.i c.transfer_of.result c.loop-i-test.true c.loop-i.invariant
    c.draw-p.ensures c.draw-q.ensures c.draw-r.ensures c.transfer_of.ensures c.in_ok-push.ensures.items
