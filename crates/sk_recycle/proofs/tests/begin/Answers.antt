use Rattle.std.proofs.Common.{[], refl}
use Rattle.sk_model.specs.declared.engine.EngineName.TheVariants.{Mem}
use Rattle.sk_model.specs.Engine.{engine_at}
use Rattle.sk_recycle.proofs.tests.begin.Goals as goal

pub returns : goal.returns
returns c =
    let e = engine_at Mem c.new.result c.new-rows.result 0 in
    (e, [], c.new-4.ensures.stands e [] (c.in_ok-engine.ensures []) refl)
