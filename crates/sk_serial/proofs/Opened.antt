-- What was opened is what a run may begin with.

use Rattle.sk_recover.specs.declared.opening.Opened.{Opened}
use Rattle.std.proofs.Common.{sym}
use Rattle.sk_device.specs.Disk.{Image}
use Rattle.sk_recover.specs.Opened.{IsOpenedAs}
use Rattle.sk_durable.specs.Growing.{OpensOver}

pub opens_over : (o : Opened) (image : Image) → IsOpenedAs o image → OpensOver o.catalog image
opens_over o image is = record { opening = is.opening; stands = is.stands; is_catalog = sym is.is.catalog }
