use Rattle.sk_recorded.proofs.Paused as law
use Rattle.sk_recorded.proofs.laws.entries_are_windows.Goals as goal

pub returns : goal.returns
returns c = law.entries_are_windows
