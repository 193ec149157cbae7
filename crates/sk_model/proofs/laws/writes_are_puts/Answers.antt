use Rattle.sk_model.proofs.TalksTold.{talks_wrote}
use Rattle.sk_model.proofs.laws.writes_are_puts.Goals as goal

pub returns : goal.returns
returns c = λ catalog r talk db talks told committed. talks_wrote catalog r talk talks db told committed
