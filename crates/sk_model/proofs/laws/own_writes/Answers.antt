use Rattle.sk_model.proofs.Journals.{own}
use Rattle.sk_model.proofs.laws.own_writes.Goals as goal

pub returns : goal.returns
returns c = own
