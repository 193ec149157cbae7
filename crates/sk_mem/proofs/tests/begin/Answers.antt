use Rattle.std.proofs.Common.{[], refl}
use Rattle.sk_model.specs.declared.engine.EngineName.TheVariants.{Mem}
use Rattle.sk_model.specs.Engine.{engine_at}
use Rattle.sk_mem.proofs.tests.begin.Goals as goal

pub returns : goal.returns
returns c =
    let e = engine_at Mem c.add.new.self c.in_ok-rows.rows 0 in
    (e, [], c.new-3.ensures.stands e [] (c.in_ok-engine.ensures []) refl)
