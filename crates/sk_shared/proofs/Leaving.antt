-- What is left of what the sessions shared is of the same run.
use Rattle.std.specs.Prelude.{◌≡◌, List}
use Rattle.std.proofs.Common.{ap, ◌∙◌}
use Rattle.sk_model.specs.declared.call.Entry.{Entry}
use Rattle.sk_model.specs.Engine.{EngineTable}
use Rattle.sk_weave.specs.Registry.{Regs}
use Rattle.sk_mem.specs.declared.engine.MemEngine.{MemEngine}
use Rattle.sk_store.specs.declared.engine.StoreEngine.{StoreEngine}
use Rattle.sk_chain.specs.declared.noted.Noted.{Noted}
use Rattle.sk_chain.specs.Noting.{journal_of}
use Rattle.sk_session.specs.Common.{Common}
use Rattle.sk_shared.specs.declared.finished.Finished.{Finished}
use Rattle.sk_shared.specs.declared.shared.Shared.{Shared}
use Rattle.sk_shared.specs.Logged.{Logs}
use Rattle.sk_shared.specs.Shared.{Stands}
use Rattle.sk_shared.specs.Finished.{IsLeft}

pub is_left : (mem : MemEngine → EngineTable → List Entry → Type 0) (store : StoreEngine → EngineTable → List Entry → Type 0) (x : Shared) (m : Noted MemEngine) (s : Noted StoreEngine) (y : Finished) → m ≡ x.engines.mem → s ≡ x.engines.store
    → y.mem_journal ≡ journal_of m → y.store_journal ≡ journal_of s
    → ((r : Regs) → Logs x.log r → (y.mem_counter ≡ r.mem) × (y.store_counter ≡ r.store)) → y.points ≡ x.log.all → (c : Common) → Stands mem store x c → IsLeft y c
is_left mem store x m s y same_mem same_store mem_journal store_journal counters points c st =
    let numbers : (y.mem_counter ≡ c.regs.mem) × (y.store_counter ≡ c.regs.store) = counters c.regs st.logged in
    record {
      mem_entered = mem_journal ∙ ap journal_of same_mem ∙ st.mem_kept.journal;
      store_entered = store_journal ∙ ap journal_of same_store ∙ st.store_kept.journal;
      mem_counted = numbers.0;
      store_counted = numbers.1;
      pointed = points ∙ st.logged.all;
    }
