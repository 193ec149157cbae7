use Rattle.std.proofs.Common.{◌≡◌, ◌++◌}
use Rattle.sk_script.specs.Generated.{numbered}
use Rattle.sk_script.proofs.generating.numbered.Given as goal

-- The lines so far and those to come, with their numbers, are all.
abbrev pub invariant-loop-what : goal.invariant-loop-what
invariant-loop-what l = l.all ++ numbered l.number l.what-iterator.rest.items ≡ numbered l.first l.fn.lines
