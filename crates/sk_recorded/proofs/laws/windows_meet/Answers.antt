use Rattle.sk_recorded.proofs.Windows as law
use Rattle.sk_recorded.proofs.laws.windows_meet.Goals as goal

pub returns : goal.returns
returns c = law.windows_meet
