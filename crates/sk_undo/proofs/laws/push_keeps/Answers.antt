use Rattle.sk_undo.proofs.Kept.{pushing}
use Rattle.sk_undo.proofs.laws.push_keeps.Goals as goal

pub returns : goal.returns
returns c = pushing
