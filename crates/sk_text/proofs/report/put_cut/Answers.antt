use Rattle.std.proofs.Common.{append_assoc}
use Rattle.sk_text.specs.Text.{cut_line}
use Rattle.sk_text.proofs.report.put_cut.Goals as goal

pub returns : goal.returns
unfolding cut_line
returns c = simp append_assoc c.in_ok-write.ensures.bytes
