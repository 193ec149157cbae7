use Rattle.std.proofs.Common.{◌≡◌, ◌++◌, take}
use Rattle.std.specs.String.{string_bytes}
use Rattle.sk_text.specs.Text.{more_values}
use Rattle.sk_text.proofs.pieces.put_row.Given as goal

-- The values before this one are written.
abbrev pub invariant-loop-value : goal.invariant-loop-value
invariant-loop-value l = string_bytes l.out ≡ string_bytes l.initial.out ++ more_values (take l.value-index l.more)
