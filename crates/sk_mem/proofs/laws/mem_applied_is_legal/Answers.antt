use Rattle.std.proofs.Common.{refl}
use Rattle.sk_mem.proofs.laws.mem_applied_is_legal.Goals as goal

pub returns : goal.returns
returns c = c.applied_is_legal.ensures refl
