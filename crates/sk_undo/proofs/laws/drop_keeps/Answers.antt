use Rattle.sk_undo.proofs.Kept.{dropping}
use Rattle.sk_undo.proofs.laws.drop_keeps.Goals as goal

pub returns : goal.returns
returns c = dropping
