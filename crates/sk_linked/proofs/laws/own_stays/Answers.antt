use Rattle.sk_linked.proofs.Sharing as sharing
use Rattle.sk_linked.proofs.laws.own_stays.Goals as goal

pub returns : goal.returns
returns c = sharing.own_stays
