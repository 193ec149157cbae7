use Rattle.sk_recycle.proofs.Horizons.{behind_after_sweep}
use Rattle.sk_recycle.proofs.laws.sweep_stays_behind.Goals as goal

pub returns : goal.returns
returns c = behind_after_sweep
