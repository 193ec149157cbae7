use Rattle.std.proofs.Common.{◌≡◌, ◌++◌, map, take}
use Rattle.sk_script.specs.Generated.{line_of}
use Rattle.sk_script.proofs.generating.put_pass.Given as goal

-- The transfers before this one have said it.
abbrev pub invariant-loop-of : goal.invariant-loop-of
invariant-loop-of l = l.lines ≡ l.initial.lines ++ map (line_of l.pass) (take l.of-index l.round)
