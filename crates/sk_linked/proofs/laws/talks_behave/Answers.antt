use Rattle.sk_linked.proofs.Conduct as conduct
use Rattle.sk_linked.proofs.laws.talks_behave.Goals as goal

pub returns : goal.returns
returns c = conduct.talks_behave
