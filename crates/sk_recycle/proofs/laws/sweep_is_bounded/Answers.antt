use Rattle.sk_recycle.proofs.Horizons.{bounded}
use Rattle.sk_recycle.proofs.laws.sweep_is_bounded.Goals as goal

pub returns : goal.returns
returns c = bounded
