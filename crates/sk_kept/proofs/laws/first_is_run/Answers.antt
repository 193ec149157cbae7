use Rattle.sk_kept.proofs.Beginnings as law
use Rattle.sk_kept.proofs.laws.first_is_run.Goals as goal

pub returns : goal.returns
returns c = law.first_is_run
