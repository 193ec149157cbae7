use Rattle.std.proofs.Common.{[], refl}
use Rattle.sk_model.specs.declared.engine.EngineName.TheVariants.{Mem}
use Rattle.sk_model.specs.Engine.{engine_at}
use Rattle.sk_booked.proofs.tests.mem.Goals as goal

pub returns : goal.returns
returns c = let e = engine_at Mem c.in_ok-catalog.catalog c.in_ok-rows.rows 0 in (e, [], c.new-3.ensures.stands e [] (c.in_ok-engine.ensures []) refl)
