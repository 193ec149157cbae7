use Rattle.std.proofs.Common.{refl}
use Rattle.sk_shared.proofs.Flushes.{found_cut}
use Rattle.sk_shared.proofs.shared.Shared.cut.Goals as goal

pub returns : goal.returns
returns c =
    found_cut _ _ c.args.self.now (record { engines = c.args.self.now.engines; log = c.cut.new.self }) c.args.x c.args.y c.cut.result c.cut.ensures.found c.cut.ensures.same refl
