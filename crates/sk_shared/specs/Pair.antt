-- Both engines, each with its journal.
use Rattle.std.specs.Prelude.{◌≡◌, List, Result, IfOk}
use Rattle.sk_model.specs.declared.engine.EngineName.{EngineName}
use Rattle.sk_model.specs.declared.engine.EngineName.TheVariants.{Mem, Store}
use Rattle.sk_model.specs.declared.call.EngineCall.{EngineCall}
use Rattle.sk_model.specs.declared.call.EngineReply.{EngineReply}
use Rattle.sk_model.specs.declared.call.Entry.{Entry}
use Rattle.sk_model.specs.Engine.{EngineTable}
use Rattle.sk_chain.specs.declared.noted.Noted.{Noted}
use Rattle.sk_mem.specs.declared.engine.MemEngine.{MemEngine}
use Rattle.sk_store.specs.declared.engine.StoreEngine.{StoreEngine}
use Rattle.sk_shared.specs.Kept.{MayMake, Asks}

pub record EnginePair : Type 0 where
  pub mem : Noted MemEngine
  pub store : Noted StoreEngine

module _ (mem : MemEngine → EngineTable → List Entry → Type 0) (store : StoreEngine → EngineTable → List Entry → Type 0) where
  -- the call could be made on this engine, if it was answered, and is entered there with its reply; the other engine is as before
  abbrev pub AsksForNobody : {E : Type 0} → EnginePair → EngineName → EngineCall → Result EngineReply E → EnginePair → Type 0
  AsksForNobody old Mem asked result new = IfOk result (λ reply. MayMake mem old.mem asked) × Asks mem old.mem asked result new.mem × (new.store ≡ old.store)
  AsksForNobody old Store asked result new = IfOk result (λ reply. MayMake store old.store asked) × Asks store old.store asked result new.store × (new.mem ≡ old.mem)
