use Rattle.sk_recorded.proofs.Grown as law
use Rattle.sk_recorded.proofs.laws.cuts_grow.Goals as goal

pub returns : goal.returns
returns c = law.cuts_grow
