-- What a flush asks of what the sessions share.
use Rattle.std.specs.Prelude.{◌≡◌, ℕ, ◌≤◌, List, Option, Some, None, Result, Ok, Err}
use Rattle.sk_model.specs.declared.engine.EngineName.{EngineName}
use Rattle.sk_model.specs.declared.engine.EngineName.TheVariants.{Mem}
use Rattle.sk_model.specs.declared.point.Point.{Point}
use Rattle.sk_model.specs.declared.call.EngineCall.{EngineCall}
use Rattle.sk_model.specs.declared.call.EngineReply.{EngineReply}
use Rattle.sk_model.specs.declared.call.Entry.{Entry}
use Rattle.sk_model.specs.Engine.{EngineTable}
use Rattle.sk_weave.specs.declared.answer.CutFound.{CutFound}
use Rattle.sk_weave.specs.Registry.{after_cut, cut_found, oldest_of}
use Rattle.sk_mem.specs.declared.engine.MemEngine.{MemEngine}
use Rattle.sk_store.specs.declared.engine.StoreEngine.{StoreEngine}
use Rattle.sk_chain.specs.Applying.{entered_reply}
use Rattle.sk_session.specs.Common.{Common, IsCommon}
use Rattle.sk_kept.specs.Flushing.{AnsweredFlush}
use Rattle.sk_recorded.specs.Joined.{from_number}
use Rattle.sk_shared.specs.declared.shared.Shared.{Shared}
use Rattle.sk_shared.specs.Shared.{Stands}

-- The cut of these two horizons was found, and the registry has its point, where it made one.
pub record HasCut (old : Common) (x y : ℕ) (found : CutFound) (new : Common) : Type 0 where
  pub is : found ≡ cut_found old.regs x y old.regs.store
  pub drawn_mem : x ≤ old.regs.mem
  pub drawn_store : y ≤ old.regs.store
  pub first : new.first ≡ old.first
  pub journals : (name : EngineName) → new.journals name ≡ old.journals name
  pub regs : new.regs ≡ after_cut old.regs x y old.regs.store
  pub common : IsCommon new

module _ (mem : MemEngine → EngineTable → List Entry → Type 0) (store : StoreEngine → EngineTable → List Entry → Type 0) where
  -- whatever it stood for: the call of no transaction is entered with this reply; where memory was wanted all is as before
  abbrev pub FlushedWith : Shared → EngineName → EngineCall → Option EngineReply → Shared → Type 0
  FlushedWith old name asked None new = (c : Common) → Stands mem store old c → Stands mem store new c
  FlushedWith old name asked (Some reply) new = (c : Common) → Stands mem store old c → (d : Common) × AnsweredFlush c name asked reply d × Stands mem store new d

  -- so it is with what was answered, and where there was no answer all is as before
  abbrev pub Flushed : {E : Type 0} → Shared → EngineName → EngineCall → Result EngineReply E → Shared → Type 0
  Flushed old name asked (Ok reply) new = FlushedWith old name asked (entered_reply reply) new
  Flushed old name asked (Err e) new = FlushedWith old name asked None new

  -- whatever it stood for, it stands for what the cut leaves of that
  abbrev pub FindsCut : {E : Type 0} → Shared → ℕ → ℕ → Result CutFound E → Shared → Type 0
  FindsCut old x y (Err e) new = (c : Common) → Stands mem store old c → Stands mem store new c
  FindsCut old x y (Ok found) new = (c : Common) → Stands mem store old c → (d : Common) × HasCut c x y found d × Stands mem store new d

  -- whatever it stood for, this is the oldest live point
  abbrev pub FindsOldest : Shared → Point → Shared → Type 0
  FindsOldest old q new = (c : Common) → Stands mem store old c → (q ≡ oldest_of c.regs) × Stands mem store new c

  -- whatever it stood for, these are its points from the first one on that is not before this one in the memory engine
  abbrev pub ShowsPoints : Shared → Point → List Point → Type 0
  ShowsPoints x q points = (c : Common) → Stands mem store x c → points ≡ from_number Mem q.a c.regs.points
