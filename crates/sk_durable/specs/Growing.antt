-- How what a store opens as goes on.
use Rattle.std.specs.Prelude.{◌≡◌, List, ◌++◌}
use Rattle.sk_device.specs.Disk.{Image, Disk}
use Rattle.sk_rows.specs.declared.table.Table.{Table}
use Rattle.sk_model.specs.declared.commit.Commit.{Commit}
use Rattle.sk_log.specs.Stores.{Opening}
use Rattle.sk_log.specs.Growth.{OpensAs}

-- an opening goes on from another: the same image of the store, the same commits, and perhaps more behind them
pub record GoesFrom (o p : Opening) : Type 0 where
  pub base : p.base ≡ o.base
  pub more_mem : List Commit
  pub more_store : List Commit
  pub mem : p.mem ≡ o.mem ++ more_mem
  pub store : p.store ≡ o.store ++ more_store

-- what the one opens as, the other opens as with perhaps more commits
abbrev pub OnlyGrows : Image → Image → Type 0
OnlyGrows was image = (o : Opening) → OpensAs was o → (p : Opening) × OpensAs image p × GoesFrom o p

-- it opens over this catalog
pub record OpensOver (catalog : List Table) (image : Image) : Type 0 where
  pub opening : Opening
  pub stands : OpensAs image opening
  pub is_catalog : opening.base.catalog ≡ catalog

-- every image that a stop may leave does
abbrev pub AllOver : {D : Type 0} → Disk D → List Table → D → Type 0
AllOver disk catalog device = (image : Image) → disk.may_leave device image → OpensOver catalog image

-- an image grows to itself
abbrev pub GrowsSame : Type 0
GrowsSame = (image : Image) → OnlyGrows image image
