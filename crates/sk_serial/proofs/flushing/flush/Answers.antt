-- What a flush found keeps the run, and so do the purges.
use Rattle.std.proofs.Common.{refl, sym, ap, subst, ◌∙◌}
use Rattle.sk_outcome.specs.declared.flush_note.FlushNote.{FlushNote}
use Rattle.sk_run.specs.Flushing.{KeepsStill}
use Rattle.sk_run.specs.State.{RunState}
use Rattle.sk_run.proofs.Stands.{mem_stands, store_stands}
use Rattle.sk_serial.specs.Showing.{SavesOn}
use Rattle.sk_serial.proofs.Closing.{still_then}
use Rattle.sk_serial.proofs.Showing.{saves_still, saves_both, still_of}
use Rattle.sk_serial.proofs.flushing.flush.Goals.{then-not-is_broken, else-not-is_broken}
use Rattle.sk_serial.proofs.flushing.flush.Goals as goal

pub returns-clause-keeps : goal.returns-clause-keeps
returns-clause-keeps g c = elim c.if-not-is_broken.branch [
  | then-not-is_broken w ↦ subst (λ (x : RunState). KeepsStill mem_stands store_stands c.args.run x) (sym w.run-is) (still_then g.D.Device.disk mem_stands store_stands _ _ _ c.find_and_write.ensures.keeps w.purge-mem.ensures)
  | else-not-is_broken w ↦ subst (λ (x : RunState). KeepsStill mem_stands store_stands c.args.run x) (sym w.run-is) c.find_and_write.ensures.keeps
]

pub returns-clause-shows : goal.returns-clause-shows
returns-clause-shows g c = elim c.if-not-is_broken.branch [
  | then-not-is_broken w ↦ subst (λ (x : RunState). SavesOn g.D.Device.disk mem_stands store_stands c.args.run c.args.store x c.find_and_write.new.store) (sym w.run-is)
      (saves_both g.D.Device.disk mem_stands store_stands c.args.run c.find_and_write.new.run w.purge-mem.new.self c.args.store c.find_and_write.new.store c.find_and_write.new.store c.find_and_write.ensures.shows
      (saves_still g.D.Device.disk mem_stands store_stands c.find_and_write.new.run w.purge-mem.new.self c.find_and_write.new.store c.find_and_write.new.store w.purge-mem.ensures (still_of g.D.Device.disk c.find_and_write.new.store c.find_and_write.new.store refl refl refl)))
  | else-not-is_broken w ↦ subst (λ (x : RunState). SavesOn g.D.Device.disk mem_stands store_stands c.args.run c.args.store x c.find_and_write.new.store) (sym w.run-is) c.find_and_write.ensures.shows
]

pub returns-clause-told : goal.returns-clause-told
returns-clause-told g c = elim c.if-not-is_broken.branch [
  | then-not-is_broken w ↦ λ none. c.in-Ok.ensures.told (sym (ap (λ (n : FlushNote). n.refused) w.note-is) ∙ none)
  | else-not-is_broken w ↦ λ none. c.in-Ok.ensures.told (sym (ap (λ (n : FlushNote). n.refused) w.note-is) ∙ none)
]
