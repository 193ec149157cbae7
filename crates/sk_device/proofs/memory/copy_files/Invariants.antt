use Rattle.std.proofs.Common.{◌≡◌, ◌<◌, ◌≤◌, ℕ, []}
use Rattle.sk_device.specs.History.{image_of}
use Rattle.sk_device.specs.Memory.{memory_image}
use Rattle.sk_device.proofs.memory.copy_files.Given as goal

abbrev pub invariant-loop-file : goal.invariant-loop-file
invariant-loop-file l = record {
  done : (file : ℕ) → file < l.file → memory_image l.copy file ≡ image_of l.files file;
  rest : (file : ℕ) → l.file ≤ file → memory_image l.copy file ≡ [];
}
