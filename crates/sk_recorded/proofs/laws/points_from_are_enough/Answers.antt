use Rattle.sk_recorded.proofs.Points as law
use Rattle.sk_recorded.proofs.laws.points_from_are_enough.Goals as goal

pub returns : goal.returns
returns c = law.points_from
