use Rattle.std.proofs.Common.{refl}
use Rattle.sk_shared.proofs.Flushes.{found_oldest}
use Rattle.sk_shared.proofs.shared.Shared.oldest.Goals as goal

pub returns : goal.returns
returns c = found_oldest _ _ c.args.self.now (record { engines = c.args.self.now.engines; log = c.oldest.new.self }) c.oldest.result c.oldest.ensures refl
