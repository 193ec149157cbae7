use Rattle.sk_model.proofs.TalksTold.{talks_told}
use Rattle.sk_model.proofs.laws.replies_are_told.Goals as goal

pub returns : goal.returns
returns c = λ catalog r talk db talks told. talks_told catalog r talk talks db told
