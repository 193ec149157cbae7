-- How far a flush may reach.
use Rattle.std.specs.Prelude.{◌≡◌, ℕ, List, Option, Some, None, Bool, cond, ◌&&◌, ◌||◌, nat_le, nat_lt}
use Rattle.sk_model.specs.declared.engine.EngineName.{EngineName}
use Rattle.sk_model.specs.declared.engine.EngineName.TheVariants.{Mem, Store}
use Rattle.sk_model.specs.declared.point.Point.{Point}
use Rattle.sk_model.specs.declared.call.Entry.{Entry}
use Rattle.sk_model.specs.Engine.{EngineTable}
use Rattle.sk_model.specs.EngineReplies.{horizon_of}
use Rattle.sk_model.specs.Legal.{after_entries}
use Rattle.sk_weave.specs.Registry.{Regs, IsSound, cut_found}
use Rattle.sk_mem.specs.declared.engine.MemEngine.{MemEngine}
use Rattle.sk_store.specs.declared.engine.StoreEngine.{StoreEngine}
use Rattle.sk_session.specs.Common.{Common}
use Rattle.sk_shared.specs.declared.shared.Shared.{Shared}
use Rattle.sk_shared.specs.Shared.{Stands}

-- up to which number each one of this engine is decided
abbrev pub decided : EngineName → Common → ℕ
decided name c = horizon_of (after_entries (c.first name) (c.journals name))

-- how far a flush may reach: the cut that the registry gives at the horizons of both engines
abbrev pub cut_of : Common → Option Point
cut_of c = (cut_found c.regs (decided Mem c) (decided Store c) c.regs.store).cut

-- neither number of p is below that of q, and one is past it
abbrev pub is_past : Point → Point → Bool
is_past p q = nat_le q.a p.a && (nat_le q.b p.b && (nat_lt q.a p.a || nat_lt q.b p.b))

-- the cut, where there is one that is past the durable cut, and else the durable cut
abbrev pub reach_from : Point → Option Point → Point
reach_from durable None = durable
reach_from durable (Some cut) = cond (is_past cut durable) cut durable

abbrev pub reach : Common → Point → Point
reach c durable = reach_from durable (cut_of c)

-- where all numbers that were drawn are decided, the cut has both counters as its numbers
abbrev pub DecidedIsReached : Type 0
DecidedIsReached = (r : Regs) → IsSound r → (q : Point) × ((cut_found r r.mem r.store r.store).cut ≡ Some q) × (q.a ≡ r.mem) × (q.b ≡ r.store)

module _ (mem : MemEngine → EngineTable → List Entry → Type 0) (store : StoreEngine → EngineTable → List Entry → Type 0) where
  -- whatever it stood for, that is the cut
  abbrev pub IsCut : Shared → Option Point → Type 0
  IsCut old cut = (c : Common) → Stands mem store old c → cut ≡ cut_of c

  -- whatever it stood for, a flush reaches so far past this durable cut
  abbrev pub Reaches : Shared → Point → Point → Type 0
  Reaches old durable cut = (c : Common) → Stands mem store old c → cut ≡ reach c durable
