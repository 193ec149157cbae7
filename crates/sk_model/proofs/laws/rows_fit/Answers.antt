use Rattle.sk_model.proofs.Fitting.{fit}
use Rattle.sk_model.proofs.laws.rows_fit.Goals as goal

pub returns : goal.returns
returns c = fit
