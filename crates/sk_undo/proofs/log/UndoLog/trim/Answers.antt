use Rattle.sk_undo.proofs.Trims.{trim_whole}
use Rattle.sk_undo.proofs.log.UndoLog.trim.Goals as goal

pub invariant_of-self : goal.invariant_of-self
invariant_of-self c = rw c.trim.ensures (trim_whole c.args.upto c.self.inside.slots.items c.self.invariant)
