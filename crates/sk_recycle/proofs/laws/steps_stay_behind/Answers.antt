use Rattle.sk_recycle.proofs.Selections.{behind_after_step}
use Rattle.sk_recycle.proofs.laws.steps_stay_behind.Goals as goal

pub returns : goal.returns
returns c = behind_after_step
