use Rattle.sk_undo.proofs.Seen.{claiming}
use Rattle.sk_undo.proofs.laws.claim_shows.Goals as goal

pub returns : goal.returns
returns c = claiming
