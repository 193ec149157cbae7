use Rattle.std.proofs.Common.{◌≡◌, ◌++◌, take}
use Rattle.std.specs.List.{flat_map}
use Rattle.std.specs.String.{string_bytes}
use Rattle.sk_text.specs.Text.{quoted}
use Rattle.sk_text.proofs.pieces.put_quoted.Given as goal

-- The bytes before this one are written.
abbrev pub invariant-loop-b : goal.invariant-loop-b
invariant-loop-b l = string_bytes l.out ≡ string_bytes l.initial.out ++ flat_map quoted (take l.b-index l.text)
