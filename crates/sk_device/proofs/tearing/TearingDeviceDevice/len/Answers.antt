use Rattle.std.proofs.Common.{refl, reverse}
use Rattle.sk_device.proofs.Tears.{kept}
use Rattle.sk_device.proofs.tearing.TearingDeviceDevice.len.Goals as goal

pub invariant_of-self : goal.invariant_of-self
invariant_of-self c = record { same = kept _ _ _ (reverse c.args.self.now.log.items) (reverse c.args.self.now.log.items) c.len.ensures.looks.seen refl c.args.self.now.same }
