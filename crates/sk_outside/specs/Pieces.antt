-- What a call takes of a piece, a text or a source.
use Rattle.std.specs.Prelude.{ℕ, ◌<◌, ◌≤◌, List, length, take, Result, IfOk}
use Rattle.std.specs.Io.KnownBytes.{Appends, Consumes}
use Rattle.std.specs.declared.option.Option.{Option}

-- at least one byte of a piece that is not empty
abbrev pub TakesSome : {E : Type 0} → Result ℕ E → List ℕ → Type 0
TakesSome result piece = IfOk result (λ taken. 0 < length piece → 0 < taken)

-- what was written grew by a front part of the text
pub record AppendsFront (old new : Option (List ℕ)) (text : List ℕ) : Type 0 where
  pub taken : ℕ
  pub within : taken ≤ length text
  pub front : Appends old new (take taken text)

-- what is left to read lost at most this many bytes, at its front
pub record ConsumesAtMost (most : ℕ) (old new : Option (List ℕ)) : Type 0 where
  pub bytes : List ℕ
  pub within : length bytes ≤ most
  pub front : Consumes old new bytes
