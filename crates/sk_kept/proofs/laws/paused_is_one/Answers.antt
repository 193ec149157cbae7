use Rattle.sk_kept.proofs.Ended as law
use Rattle.sk_kept.proofs.laws.paused_is_one.Goals as goal

pub returns : goal.returns
returns c = law.paused_is_one
