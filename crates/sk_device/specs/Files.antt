-- What a device over real files tells: its count of faults alone.
use Rattle.std.specs.Prelude.{ℕ}
use Rattle.sk_device.specs.declared.file.FileDevice.{FileDevice}

-- R is the runtime; A and B are types that belong to it
abbrev pub file_faults : {R A B : Type 0} → FileDevice R A B → ℕ
file_faults device = device.faults
