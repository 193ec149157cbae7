use Rattle.sk_linked.proofs.Sessions.{fresh}
use Rattle.sk_linked.proofs.laws.runs_are_fresh.Goals as goal

pub returns : goal.returns
returns c = fresh
