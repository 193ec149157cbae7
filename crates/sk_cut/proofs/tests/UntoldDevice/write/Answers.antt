use Rattle.sk_device.proofs.Bytes.{silent_steps}
use Rattle.sk_cut.proofs.tests.UntoldDevice.write.Goals as goal

pub returns-clause-steps : goal.returns-clause-steps
returns-clause-steps c = silent_steps _ _ _ _ _
