use Rattle.sk_model.proofs.Journals.{rise}
use Rattle.sk_model.proofs.laws.versions_rise.Goals as goal

pub returns : goal.returns
returns c = rise
