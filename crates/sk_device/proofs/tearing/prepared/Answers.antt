use Rattle.sk_device.proofs.Bytes.{torn_with}
use Rattle.sk_device.proofs.tearing.prepared.Goals as goal

pub invariant_of-result-clause-torn : goal.invariant_of-result-clause-torn
invariant_of-result-clause-torn c = λ was. torn_with c.args.file c.args.at c.args.bytes.items was c.args.size c.requires.fits
