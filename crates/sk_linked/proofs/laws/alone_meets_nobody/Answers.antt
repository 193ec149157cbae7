use Rattle.sk_linked.proofs.Alone as alone
use Rattle.sk_linked.proofs.laws.alone_meets_nobody.Goals as goal

pub returns : goal.returns
returns c = alone.alone_meets_nobody
