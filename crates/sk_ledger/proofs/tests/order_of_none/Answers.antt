-- Nobody is a run too.
use Rattle.std.proofs.Common.{rules}
use Rattle.sk_ledger.proofs.LedgerExamples.{nobody, left_by_nobody}
use Rattle.sk_ledger.proofs.tests.order_of_none.Goals as goal

pub order-requires : goal.order-requires
order-requires c = (nobody, left_by_nobody _ _ _ _ (search rules) (search rules) (search rules) (search rules))
