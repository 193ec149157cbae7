use Rattle.sk_undo.proofs.Seen.{filling}
use Rattle.sk_undo.proofs.laws.fill_shows.Goals as goal

pub returns : goal.returns
returns c = filling
