use Rattle.sk_booked.proofs.Legals.{closed_is_legal}
use Rattle.sk_booked.proofs.laws.closed_is_legal.Goals as goal

pub returns : goal.returns
returns g c = closed_is_legal g.G.Engine.told g.G.Engine.faults g.G.Engine.stands
