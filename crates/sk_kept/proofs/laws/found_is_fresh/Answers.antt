use Rattle.sk_kept.proofs.Founds as law
use Rattle.sk_kept.proofs.laws.found_is_fresh.Goals as goal

pub returns : goal.returns
returns c = law.found_fresh
