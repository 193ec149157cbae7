use Rattle.std.proofs.Common.{refl}
use Rattle.sk_shared.proofs.Flushes.{flushed}
use Rattle.sk_shared.proofs.shared.Shared.ask_for_nobody.Goals as goal

pub returns : goal.returns
returns c =
    flushed _ _ c.args.self.now (record { engines = c.ask_for_nobody.new.self; log = c.args.self.now.log }) c.args.name c.args.call c.ask_for_nobody.result c.requires c.ask_for_nobody.ensures refl
