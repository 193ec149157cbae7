use Rattle.sk_run.proofs.Newest as law
use Rattle.sk_run.proofs.laws.decided_is_reached.Goals as goal

pub returns : goal.returns
returns c = law.decided_is_reached
