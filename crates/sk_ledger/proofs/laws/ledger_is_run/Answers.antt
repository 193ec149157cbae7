use Rattle.sk_ledger.proofs.Whole as whole
use Rattle.sk_ledger.proofs.laws.ledger_is_run.Goals as goal

pub returns : goal.returns
returns c = whole.ledger_is_run
