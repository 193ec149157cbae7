use Rattle.sk_undo.proofs.Kept.{cutting}
use Rattle.sk_undo.proofs.laws.cut_keeps.Goals as goal

pub returns : goal.returns
returns c = cutting
