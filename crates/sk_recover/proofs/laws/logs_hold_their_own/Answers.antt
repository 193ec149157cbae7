use Rattle.sk_recover.proofs.LogsOwned as law
use Rattle.sk_recover.proofs.laws.logs_hold_their_own.Goals as goal

pub returns : goal.returns
returns c = law.logs_hold_their_own
