use Rattle.sk_recycle.proofs.Selections.{open_at}
use Rattle.sk_recycle.proofs.laws.selection_is_open.Goals as goal

pub returns : goal.returns
returns c = open_at
