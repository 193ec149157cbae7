use Rattle.sk_kept.proofs.Flushing as law
use Rattle.sk_kept.proofs.laws.flush_calls_keep.Goals as goal

pub returns : goal.returns
returns c = law.flush_calls_keep
