-- What both engines of a run stand for.
use Rattle.std.specs.Prelude.{List}
use Rattle.sk_model.specs.declared.call.Entry.{Entry}
use Rattle.sk_model.specs.Engine.{EngineTable}
use Rattle.sk_mem.specs.declared.engine.MemEngine.{MemEngine}
use Rattle.sk_mem.specs.contracts.engine.MemEngineEngine.TheImpl as mem_engine
use Rattle.sk_store.specs.declared.engine.StoreEngine.{StoreEngine}
use Rattle.sk_store.specs.contracts.engine.StoreEngineEngine.TheImpl as store_engine

abbrev pub mem_stands : MemEngine → EngineTable → List Entry → Type 0
mem_stands = mem_engine.stands-value.it

abbrev pub store_stands : StoreEngine → EngineTable → List Entry → Type 0
store_stands = store_engine.stands-value.it
