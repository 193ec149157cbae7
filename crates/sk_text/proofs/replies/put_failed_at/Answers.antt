use Rattle.std.proofs.Common.{append_assoc}
use Rattle.sk_text.specs.Text.{failed_at}
use Rattle.sk_text.proofs.replies.put_failed_at.Goals as goal

pub returns : goal.returns
unfolding failed_at
returns c = simp append_assoc c.in_ok-write.ensures.bytes
