use Rattle.sk_recorded.proofs.Grown as law
use Rattle.sk_recorded.proofs.laws.grows_on.Goals as goal

pub returns : goal.returns
returns c = law.grows_on
