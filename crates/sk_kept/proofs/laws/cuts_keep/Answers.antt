use Rattle.sk_kept.proofs.Flushing as law
use Rattle.sk_kept.proofs.laws.cuts_keep.Goals as goal

pub returns : goal.returns
returns c = law.cuts_keep
