use Rattle.sk_linked.proofs.Denying as denying
use Rattle.sk_linked.proofs.laws.refusals_are_caused.Goals as goal

pub returns : goal.returns
returns c = denying.refusals_are_caused
