use Rattle.sk_durable.proofs.Growing.{grows_same}
use Rattle.sk_durable.proofs.laws.grows_same.Goals as goal

pub returns : goal.returns
returns c = grows_same
