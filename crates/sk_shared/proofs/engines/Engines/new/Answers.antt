-- Neither engine has an entry yet.
use Rattle.std.proofs.Common.{[], refl}
use Rattle.sk_model.specs.declared.engine.EngineName.TheVariants.{Mem, Store}
use Rattle.sk_model.specs.Engine.{engine_at}
use Rattle.sk_shared.proofs.Entries.{begins}
use Rattle.sk_shared.proofs.engines.Engines.new.Goals as goal

pub returns-clause-mem : goal.returns-clause-mem
returns-clause-mem c =
    let first = engine_at Mem c.args.catalog.now c.args.rows.now c.args.a in
    begins _ c.new-3.result c.in_ok-mem.mem first first refl c.in_ok-mem.ensures c.new-3.ensures.stands refl c.new-3.ensures.journal

pub returns-clause-store : goal.returns-clause-store
returns-clause-store c =
    let first = engine_at Store c.args.catalog.now c.args.rows.now c.args.b in
    begins _ c.new-4.result c.in_ok-store.store first first refl c.in_ok-store.ensures c.new-4.ensures.stands refl c.new-4.ensures.journal

pub invariant_of-result : goal.invariant_of-result
invariant_of-result c =
    let mem = engine_at Mem c.args.catalog.now c.args.rows.now c.args.a in
    let store = engine_at Store c.args.catalog.now c.args.rows.now c.args.b in (
      (mem, [], begins _ c.new-3.result c.in_ok-mem.mem mem mem refl c.in_ok-mem.ensures c.new-3.ensures.stands refl c.new-3.ensures.journal),
      (store, [], begins _ c.new-4.result c.in_ok-store.store store store refl c.in_ok-store.ensures c.new-4.ensures.stands refl c.new-4.ensures.journal),
    )
