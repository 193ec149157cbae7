-- How a store lasts: what every image of its disk opens as, from the call on.
use Rattle.std.specs.Prelude.{◌≡◌, ◌⊎◌, Ok}
use Rattle.std.specs.Prelude.{List}
use Rattle.sk_device.specs.Disk.{Image, Disk, Steps}
use Rattle.sk_rows.specs.declared.table.Table.{Table}
use Rattle.sk_model.specs.declared.point.Point.{Point}
use Rattle.sk_log.specs.Stores.{Opening, opens}
use Rattle.sk_recover.specs.Making.{Reopens}
use Rattle.sk_durable.specs.Growing.{GoesFrom}

-- an image opens as one that opened before, with perhaps more commits behind its own
pub record GoesOn (catalog : List Table) (start : Point) (was image : Image) : Type 0 where
  pub from : Opening
  pub to : Opening
  pub opened : opens catalog start was ≡ Ok from
  pub opens_now : opens catalog start image ≡ Ok to
  pub goes : GoesFrom from to

-- It opens as before, where a new store has these tables and this cut, or with perhaps more commits.
abbrev pub Lasts : List Table → Point → Image → Image → Type 0
Lasts catalog start was image = Reopens catalog start was image ⊎ GoesOn catalog start was image

-- At each moment from the one to the other, whatever a stop leaves then lasts from what a stop at the start might have left.
abbrev pub Lasting : {D : Type 0} → Disk D → D → D → Type 0
Lasting disk old new = (catalog : List Table) × (start : Point) × Steps disk (Lasts catalog start) old new
