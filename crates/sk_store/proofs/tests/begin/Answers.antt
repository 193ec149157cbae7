use Rattle.std.proofs.Common.{[], refl}
use Rattle.sk_model.specs.declared.engine.EngineName.TheVariants.{Store}
use Rattle.sk_model.specs.Engine.{engine_at}
use Rattle.sk_store.specs.Begun.{no_rows}
use Rattle.sk_store.proofs.tests.begin.Goals as goal

pub returns : goal.returns
returns c = let e = engine_at Store c.in_ok-catalog.catalog (no_rows c.in_ok-catalog.catalog) 0 in (e, [], c.new.ensures.stands e [] (c.in_ok-engine.ensures []) refl)
