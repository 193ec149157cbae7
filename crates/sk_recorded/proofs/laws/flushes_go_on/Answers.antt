use Rattle.sk_recorded.proofs.Growing as law
use Rattle.sk_recorded.proofs.laws.flushes_go_on.Goals as goal

pub returns : goal.returns
returns c = law.flushes_go_on
