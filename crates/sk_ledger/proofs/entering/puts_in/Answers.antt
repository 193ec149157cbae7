-- Horizons are no puts.
use Rattle.sk_ledger.proofs.Putting.{of_journal_if}
use Rattle.sk_ledger.proofs.entering.puts_in.Goals as goal

pub returns : goal.returns
returns c = of_journal_if c.enter_all.result c.as_parts.result.0.now c.as_parts.result.1 c.args.journal.now c.as_parts.ensures.entries c.enter_all.ensures
