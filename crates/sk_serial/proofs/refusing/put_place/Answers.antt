use Rattle.std.proofs.Common.{append_assoc}
use Rattle.sk_serial.proofs.refusing.put_place.Goals as goal

pub returns : goal.returns
returns c = simp append_assoc c.in_ok-write.ensures.bytes
