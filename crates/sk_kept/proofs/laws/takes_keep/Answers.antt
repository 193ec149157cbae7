use Rattle.sk_kept.proofs.Running as law
use Rattle.sk_kept.proofs.laws.takes_keep.Goals as goal

pub returns : goal.returns
returns c = law.takes_keep
