-- What a write and a sync leave.
use Rattle.std.proofs.Common.{◌≡◌, ℕ, ◌+◌, ◌-◌, List, ◌++◌, length, take, drop, replicate, refl, ap, ◌∙◌, arith, append_assoc, length-append}
use Rattle.std.proofs.lemmas.List.{take_at, drop_at, length-replicate, length-take-le}
use Rattle.sk_device.specs.Disk.{Disk, Puts, Steps, Torn, IsSettled, overwritten}
use Rattle.sk_device.proofs.Bytes.{torn_same}
use Rattle.sk_device.proofs.Moments.{steps_none}
use Rattle.sk_log.specs.Calls.{Stands}

module _ (old : List ℕ) (at : ℕ) (bytes : List ℕ) where
  abbrev padded : List ℕ
  padded = old ++ replicate (at + length bytes - length old) 0

  size : length (take at padded) ≡ at
  size = length-take-le at padded (omega (arith, length-append old (replicate (at + length bytes - length old) 0), length-replicate {A = ℕ} (at + length bytes - length old) 0))
