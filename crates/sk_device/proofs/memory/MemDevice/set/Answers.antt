use Rattle.std.proofs.Common.{rules, ◌<◌, length, refl}
use Rattle.sk_device.proofs.Histories.{puts_to}
use Rattle.sk_device.proofs.memory.MemDevice.set.Goals as goal

pub returns-clause-puts : goal.returns-clause-puts
returns-clause-puts c =
    let short : c.args.file < length c.args.self.now.files = search rules in
    puts_to _ _ _ _ _ c.from.ensures short refl
