use Rattle.sk_model.proofs.Parts.{parts_are_commits}
use Rattle.sk_model.proofs.laws.parts_are_commits.Goals as goal

pub returns : goal.returns
returns c = parts_are_commits
