use Rattle.sk_linked.proofs.Explained.{explained}
use Rattle.sk_linked.proofs.laws.runs_are_explained.Goals as goal

pub returns : goal.returns
returns c = explained
