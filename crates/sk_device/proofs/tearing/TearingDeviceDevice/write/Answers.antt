use Rattle.std.proofs.Common.{◌∙◌, ap, List, reverse}
use Rattle.sk_device.specs.declared.change.Change.{Change}
use Rattle.sk_device.specs.Disk.{Image}
use Rattle.sk_device.specs.Changes.{image_after}
use Rattle.sk_device.specs.Memory.{memory_image}
use Rattle.sk_device.proofs.Histories.{same_image}
use Rattle.sk_device.proofs.Tears.{kept, shows_wrote}
use Rattle.sk_device.proofs.tearing.TearingDeviceDevice.write.Goals as goal

pub invariant_of-self : goal.invariant_of-self
invariant_of-self c = record {
  same = λ file. ap (λ (im : Image). im file) c.fault.ensures.same
      ∙ shows_wrote _ _ _ _ _ _ _ _ _ c.in-Ok.ensures.keeps (λ f. ap (λ (im : Image). im f) c.next_change_fails-cut.ensures.same ∙ c.args.self.now.same f) c.in-Ok.ensures.puts file;
}

pub invariant_of-self-else-cut : goal.invariant_of-self-else-cut
invariant_of-self-else-cut c =
    record { same = shows_wrote _ _ _ _ _ _ _ _ _ c.in-Ok.ensures.keeps (λ f. ap (λ (im : Image). im f) c.next_change_fails-cut.ensures.same ∙ c.args.self.now.same f) c.in-Ok.ensures.puts }

pub invariant_of-self-in-Err : goal.invariant_of-self-in-Err
invariant_of-self-in-Err c =
    let base = memory_image c.args.self.now.base in
    record { same = kept base _ _ (reverse c.args.self.now.log.items) (reverse c.put_down-done.new.log.items) (c.starve.ensures.same ∙ same_image _ _ (c.in-Err.ensures.same) ∙ c.next_change_fails-cut.ensures.same) (ap (λ (l : List Change). image_after base (reverse l)) c.in-Err.ensures.log) c.args.self.now.same }
