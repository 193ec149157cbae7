use Rattle.sk_recorded.proofs.Windows as law
use Rattle.sk_recorded.proofs.laws.windows_begin.Goals as goal

pub returns : goal.returns
returns c = law.windows_begin
