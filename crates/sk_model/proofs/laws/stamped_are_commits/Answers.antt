use Rattle.sk_model.proofs.Listed.{are_commits}
use Rattle.sk_model.proofs.laws.stamped_are_commits.Goals as goal

pub returns : goal.returns
returns c = are_commits
