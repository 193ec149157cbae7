use Rattle.std.proofs.Common.{◌∷◌, ◌∙◌, ap, List, reverse, refl}
use Rattle.sk_device.specs.declared.change.Change.{Change}
use Rattle.sk_device.specs.declared.change.Change.TheVariants.{Synced}
use Rattle.sk_device.specs.Changes.{image_after}
use Rattle.sk_device.specs.Memory.{memory_image}
use Rattle.sk_device.proofs.Tears.{kept, looks_synced}
use Rattle.sk_device.proofs.tearing.TearingDeviceDevice.sync.Goals as goal

pub invariant_of-self : goal.invariant_of-self
invariant_of-self c = record { same = kept _ _ _ (reverse c.args.self.now.log.items) (reverse c.args.self.now.log.items) (c.fault.ensures.same ∙ c.next_change_fails.ensures.same) refl c.args.self.now.same }

pub invariant_of-self-in-Ok : goal.invariant_of-self-in-Ok
invariant_of-self-in-Ok c =
    let base = memory_image c.args.self.now.base in
    record { same = kept base _ _ (reverse c.args.self.now.log.items) (reverse c.keep.new.log.items) c.next_change_fails.ensures.same (ap (image_after base) c.keep.ensures ∙ ap (λ (l : List Change). image_after base (reverse l)) c.reserve.ensures.items) c.args.self.now.same }

pub invariant_of-self-in-Err : goal.invariant_of-self-in-Err
invariant_of-self-in-Err c =
    let base = memory_image c.args.self.now.base in
    record { same = kept base _ _ (reverse c.args.self.now.log.items) (reverse c.reserve.new.self.items) (c.starve.ensures.same ∙ c.next_change_fails.ensures.same) (ap (λ (l : List Change). image_after base (reverse l)) c.reserve.ensures.items) c.args.self.now.same }

pub returns-in-Ok-clause-looks : goal.returns-in-Ok-clause-looks
returns-in-Ok-clause-looks c =
    looks_synced _ _ c.args.file refl (c.keep.ensures ∙ ap (λ (l : List Change). Synced c.args.file ∷ reverse l) c.reserve.ensures.items)
