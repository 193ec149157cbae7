use Rattle.sk_booked.proofs.Legals.{new_is_made_with}
use Rattle.sk_booked.proofs.laws.new_is_made_with.Goals as goal

pub returns : goal.returns
returns g c = new_is_made_with g.G.Engine.told g.G.Engine.stands
