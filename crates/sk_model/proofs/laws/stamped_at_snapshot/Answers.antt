use Rattle.sk_model.proofs.Stamping.{stamped_at}
use Rattle.sk_model.proofs.laws.stamped_at_snapshot.Goals as goal

pub returns : goal.returns
returns c = stamped_at
