-- Which tables the logs of a store write to.
use Rattle.std.specs.Prelude.{◌≡◌, true, false, List}
use Rattle.std.specs.List.{AllByRecursion}
use Rattle.sk_device.specs.Disk.{Image}
use Rattle.sk_rows.specs.declared.table.Table.{Table}
use Rattle.sk_model.specs.declared.commit.Commit.{Commit}
use Rattle.sk_model.specs.declared.engine.EngineName.TheVariants.{Store}
use Rattle.sk_model.specs.Engine.{keeps}
use Rattle.sk_log.specs.Growth.{OpensAs}
use Rattle.sk_log.specs.Stores.{Opening}

-- the commits of each log write to tables of its own engine alone
pub record HoldOwn (catalog : List Table) (mem store : List Commit) : Type 0 where
  pub of_mem : AllByRecursion (λ c. AllByRecursion (λ w. keeps Store catalog w.table ≡ false) c.writes) mem
  pub of_store : AllByRecursion (λ c. AllByRecursion (λ w. keeps Store catalog w.table ≡ true) c.writes) store

-- so do the logs of whatever an image opens as, over its tables
abbrev pub LogsHoldTheirOwn : Type 0
LogsHoldTheirOwn = (image : Image) (o : Opening) → OpensAs image o → HoldOwn o.base.catalog o.mem o.store
