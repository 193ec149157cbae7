use Rattle.std.proofs.Common.{append_assoc}
use Rattle.sk_text.specs.Text.{flush_line}
use Rattle.sk_text.proofs.flush.put_flush_line.Goals as goal

pub returns : goal.returns
unfolding flush_line
returns c = simp append_assoc c.in_ok-write.ensures.bytes
