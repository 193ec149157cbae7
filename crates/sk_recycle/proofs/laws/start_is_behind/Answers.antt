use Rattle.sk_recycle.proofs.Horizons.{behind_at_start}
use Rattle.sk_recycle.proofs.laws.start_is_behind.Goals as goal

pub returns : goal.returns
returns c = behind_at_start
