use Rattle.sk_model.proofs.Journals.{reads}
use Rattle.sk_model.proofs.laws.reads_snapshot.Goals as goal

pub returns : goal.returns
returns c = reads
