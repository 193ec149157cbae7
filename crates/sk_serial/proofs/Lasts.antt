-- A store that was opened and then only grew lasts.
use Rattle.std.proofs.Common.{◌≡◌, List, Ok, refl, sym, ◌∙◌, inl, inr}
use Rattle.sk_device.specs.Disk.{Image, Disk, Steps}
use Rattle.sk_device.proofs.Moments.{steps_then, steps_weaker, steps_none}
use Rattle.sk_rows.specs.declared.table.Table.{Table}
use Rattle.sk_model.specs.declared.point.Point.{Point}
use Rattle.sk_log.specs.Stores.{Opening, opens}
use Rattle.sk_log.specs.Growth.{OpensAs}
use Rattle.sk_recover.specs.Making.{AllImages, Reopens}
use Rattle.sk_recover.specs.Opened.{IsOpenedAs}
use Rattle.sk_recover.specs.declared.opening.Opened.{Opened}
use Rattle.sk_recover.proofs.Opens.{opens_stored}
use Rattle.sk_durable.specs.Growing.{OnlyGrows}
use Rattle.sk_serial.specs.Lasting.{Lasts}

-- an image with an open root entry opens so whatever a new store would have
opens_as : (catalog : List Table) (start : Point) (image : Image) (o : Opening) → OpensAs image o → opens catalog start image ≡ Ok o
opens_as catalog start image o stands = opens_stored catalog start image (image 0) stands.at refl stands.rooted ∙ stands.opens

module _ {D : Type 0} (disk : Disk D) (catalog : List Table) (start : Point) where
  -- opened alone
  pub lasts_opened : (old new : D) → Steps disk (Reopens catalog start) old new → Steps disk (Lasts catalog start) old new
  lasts_opened old new steps = steps_weaker disk (Reopens catalog start) (Lasts catalog start) old new steps (λ was image left reopens. inl reopens)

  -- and then it grew
  pub lasts_grown : (old mid new : D) (opened : Opened) → Steps disk (Reopens catalog start) old mid → AllImages disk (IsOpenedAs opened) mid → Steps disk OnlyGrows mid new → Steps disk (Lasts catalog start) old new
  lasts_grown old mid new opened first stands then = steps_then disk (Reopens catalog start) OnlyGrows (Lasts catalog start) old mid new first then
      (λ was image left reopens. inl reopens)
      (λ was between image left among reopens grows.
      let is : IsOpenedAs opened between = stands between among in
      let more = grows is.opening is.stands in
      inr (record {
        from = is.opening;
        to = more.0;
        opened = sym reopens ∙ opens_as catalog start between is.opening is.stands;
        opens_now = opens_as catalog start image more.0 more.1;
        goes = more.2;
      }))

  -- nothing was done
  pub lasts_same : (device : D) → Steps disk (Lasts catalog start) device device
  lasts_same device = steps_none disk (Lasts catalog start) device (λ image. inl refl)
