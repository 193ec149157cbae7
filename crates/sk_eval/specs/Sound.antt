-- What a well typed expression comes to.
use Rattle.std.specs.Prelude.{◌≡◌, Result, Ok, Err}
use Rattle.sk_rows.specs.declared.value.Sort.{Sort}
use Rattle.sk_rows.specs.declared.value.Value.{Value}
use Rattle.sk_rows.specs.declared.faults.ValueFault.{ValueFault}
use Rattle.sk_rows.specs.declared.faults.ValueFault.TheVariants.{Overflow, NoMemory}
use Rattle.sk_rows.specs.Values.{sort_of}

-- a value of this sort, or Overflow
abbrev pub HasSort : Sort → Result Value ValueFault → Type 0
HasSort s (Ok v) = sort_of v ≡ s
HasSort s (Err Overflow) = Unit {0}
HasSort s (Err NoMemory) = ⊥
