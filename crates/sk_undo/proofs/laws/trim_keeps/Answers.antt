use Rattle.sk_undo.proofs.Kept.{trimming}
use Rattle.sk_undo.proofs.laws.trim_keeps.Goals as goal

pub returns : goal.returns
returns c = trimming
