-- How a flush ended.
use Rattle.std.specs.Prelude.{ℕ, ◌<◌, Bool, true, false, Option, Some, None}
use Rattle.sk_model.specs.declared.receipt.FlushFault.{FlushFault}
use Rattle.sk_model.specs.declared.receipt.FlushFault.TheVariants as fault
use Rattle.sk_outcome.specs.declared.flush_note.FlushNote.{FlushNote}

abbrev pub is_device : Option FlushFault → Bool
is_device None = false
is_device (Some fault.Device) = true
is_device (Some (fault.LogFull n)) = false
is_device (Some fault.NoMemory) = false

-- the disk failed the flush
abbrev pub is_broken : FlushNote → Bool
is_broken note = is_device note.refused

-- a flush is refused for the length of a log only where that is past the greatest one
abbrev pub IsPast : ℕ → Option FlushFault → Type 0
IsPast logmax None = Unit {0}
IsPast logmax (Some fault.Device) = Unit {0}
IsPast logmax (Some (fault.LogFull n)) = logmax < n
IsPast logmax (Some fault.NoMemory) = Unit {0}
