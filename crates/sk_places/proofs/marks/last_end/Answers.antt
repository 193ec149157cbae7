use Rattle.std.proofs.Common.{sym}
use Rattle.sk_places.proofs.Halving.{last_none}
use Rattle.sk_places.proofs.marks.last_end.Goals as goal

pub returns-in-None : goal.returns-in-None
returns-in-None c = rw c.in-None.is (sym (last_none 0 c.args.marks.now))
