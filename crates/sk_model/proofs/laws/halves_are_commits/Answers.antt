use Rattle.sk_model.proofs.Parts.{halves_are_commits}
use Rattle.sk_model.proofs.laws.halves_are_commits.Goals as goal

pub returns : goal.returns
returns c = halves_are_commits
