use Rattle.sk_recorded.proofs.Grown as law
use Rattle.sk_recorded.proofs.laws.flush_calls_grow.Goals as goal

pub returns : goal.returns
returns c = law.flush_calls_grow
