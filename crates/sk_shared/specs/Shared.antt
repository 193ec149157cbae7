-- What the sessions of a run on one thread share, and for what it stands.
use Rattle.std.specs.Prelude.{ℕ, List, []}
use Rattle.sk_rows.specs.declared.table.Table.{Table}
use Rattle.sk_model.specs.declared.engine.EngineName.{EngineName}
use Rattle.sk_model.specs.declared.engine.EngineName.TheVariants.{Mem, Store}
use Rattle.sk_model.specs.declared.point.Point.{Point}
use Rattle.sk_model.specs.declared.call.Entry.{Entry}
use Rattle.sk_model.specs.Database.{Tables}
use Rattle.sk_model.specs.Engine.{EngineTable, engine_at}
use Rattle.sk_weave.specs.Registry.{regs_at}
use Rattle.sk_mem.specs.declared.engine.MemEngine.{MemEngine}
use Rattle.sk_store.specs.declared.engine.StoreEngine.{StoreEngine}
use Rattle.sk_commit.specs.declared.asking.Wish.{Wish}
use Rattle.sk_commit.specs.declared.asking.Got.{Got}
use Rattle.sk_session.specs.Common.{Common, IsCommon, Answered}
use Rattle.sk_shared.specs.Kept.{Keeps}
use Rattle.sk_shared.specs.Logged.{Logs}
use Rattle.sk_shared.specs.declared.shared.Shared.{Shared}

-- the number with which an engine begins, of a registry that begins at this point
abbrev pub start_of : EngineName → Point → ℕ
start_of Mem p = p.a
start_of Store p = p.b

-- what a run has that begins with these rows
abbrev pub first_common : List Table → Tables → ℕ → ℕ → Point → Common
first_common catalog rows partitions size start = record {
  first = λ name. engine_at name catalog rows (start_of name start);
  journals = λ name. [];
  regs = regs_at partitions size start;
}

module _ (mem : MemEngine → EngineTable → List Entry → Type 0) (store : StoreEngine → EngineTable → List Entry → Type 0) where
  -- Both journals are those of what the run has so far, and both engines stand for the tables behind them; so does the registry, and the
  -- list of all points has those of the run.
  pub record Stands (x : Shared) (c : Common) : Type 0 where
    pub mem_kept : Keeps mem x.engines.mem (c.first Mem) (c.journals Mem)
    pub store_kept : Keeps store x.engines.store (c.first Store) (c.journals Store)
    pub logged : Logs x.log c.regs
    pub common : IsCommon c

  -- whatever it stood for, the call was answered so, and it stands for what that has made of it
  abbrev pub Answers : Shared → Wish → Got → Shared → Type 0
  Answers old asked got new = (c : Common) → Stands old c → (d : Common) × Answered c asked got d × Stands new d
