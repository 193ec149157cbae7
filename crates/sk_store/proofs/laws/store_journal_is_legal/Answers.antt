use Rattle.std.proofs.Common.{refl}
use Rattle.sk_store.proofs.laws.store_journal_is_legal.Goals as goal

pub returns : goal.returns
returns c = c.journal_is_legal.ensures refl
