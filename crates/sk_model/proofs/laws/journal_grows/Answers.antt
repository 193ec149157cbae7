use Rattle.sk_model.proofs.Order.{legal_push}
use Rattle.sk_model.proofs.laws.journal_grows.Goals as goal

pub returns : goal.returns
returns c = legal_push
