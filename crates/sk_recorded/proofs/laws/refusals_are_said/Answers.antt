use Rattle.sk_recorded.proofs.Refused as refused
use Rattle.sk_recorded.proofs.laws.refusals_are_said.Goals as goal

pub returns : goal.returns
returns c = refused.refusals_are_said
