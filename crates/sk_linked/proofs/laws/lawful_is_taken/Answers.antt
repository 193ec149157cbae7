use Rattle.sk_linked.proofs.Taken.{lawful}
use Rattle.sk_linked.proofs.laws.lawful_is_taken.Goals as goal

pub returns : goal.returns
returns c = lawful
