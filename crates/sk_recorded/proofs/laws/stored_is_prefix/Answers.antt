use Rattle.sk_recorded.proofs.Paused as law
use Rattle.sk_recorded.proofs.laws.stored_is_prefix.Goals as goal

pub returns : goal.returns
returns c = law.stored_is_prefix
