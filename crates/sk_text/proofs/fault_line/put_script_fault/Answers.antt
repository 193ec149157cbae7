use Rattle.std.proofs.Common.{append_assoc}
use Rattle.sk_text.specs.Text.{script_fault_text}
use Rattle.sk_text.proofs.fault_line.put_script_fault.Goals as goal

pub returns : goal.returns
unfolding script_fault_text
returns c = simp append_assoc c.in_ok-write.ensures.bytes
