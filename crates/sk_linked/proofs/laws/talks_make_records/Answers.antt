use Rattle.sk_linked.proofs.Recorded.{talks_make}
use Rattle.sk_linked.proofs.laws.talks_make_records.Goals as goal

pub returns : goal.returns
returns c = talks_make
