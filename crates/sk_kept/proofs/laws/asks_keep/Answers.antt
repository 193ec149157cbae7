use Rattle.sk_kept.proofs.Running as law
use Rattle.sk_kept.proofs.laws.asks_keep.Goals as goal

pub returns : goal.returns
returns c = law.asks_keep
