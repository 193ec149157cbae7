use Rattle.sk_linked.proofs.Wins.{wins}
use Rattle.sk_linked.proofs.laws.first_committer_wins.Goals as goal

pub returns : goal.returns
returns c = wins
