use Rattle.sk_durable.proofs.Growing.{grows_on}
use Rattle.sk_durable.proofs.laws.grows_on.Goals as goal

pub returns : goal.returns
returns g c = grows_on g.D.Device.disk
