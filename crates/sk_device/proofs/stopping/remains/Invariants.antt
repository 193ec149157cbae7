use Rattle.std.proofs.Common.{◌≡◌, ◌-◌, ◌≤◌, length, take, drop, reverse}
use Rattle.sk_device.specs.Changes.{left_by}
use Rattle.sk_device.specs.Memory.{memory_image}
use Rattle.sk_device.proofs.Stops.{IsRedone}
use Rattle.sk_device.proofs.stopping.remains.Given as goal

abbrev pub invariant-changes : goal.invariant-changes
invariant-changes l = record {
  within : l.done ≤ length l.log;
  redone : IsRedone (memory_image l.fn.base) (reverse (take l.done l.log)) (drop l.done l.log) (memory_image l.device);
  chosen : left_by (drop l.done l.log) l.open (memory_image l.device) ≡ left_by l.log l.tears (memory_image l.fn.base);
}

abbrev pub decreases-changes : goal.decreases-changes
decreases-changes l = length l.log - l.done
