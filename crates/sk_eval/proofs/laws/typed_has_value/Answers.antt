use Rattle.sk_eval.proofs.Sound.{sound}
use Rattle.sk_eval.proofs.laws.typed_has_value.Goals as goal

pub returns : goal.returns
returns c = sound
