-- What a run leaves.
use Rattle.std.specs.Prelude.{◌≡◌}
use Rattle.sk_model.specs.declared.engine.EngineName.TheVariants.{Mem, Store}
use Rattle.sk_session.specs.Common.{Common}
use Rattle.sk_shared.specs.declared.finished.Finished.{Finished}

-- the journals, the counters and the points are those of the run
pub record IsLeft (x : Finished) (c : Common) : Type 0 where
  pub mem_entered : x.mem_journal ≡ c.journals Mem
  pub store_entered : x.store_journal ≡ c.journals Store
  pub mem_counted : x.mem_counter ≡ c.regs.mem
  pub store_counted : x.store_counter ≡ c.regs.store
  pub pointed : x.points ≡ c.regs.points
