use Rattle.std.proofs.Common.{◌≡◌, ◌-◌, ◌++◌}
use Rattle.sk_script.specs.Generated.{rounds}
use Rattle.sk_script.proofs.generating.put_rounds.Given as goal

-- The rounds so far and those to come are all.
abbrev pub invariant-loop-round : goal.invariant-loop-round
invariant-loop-round l = l.lines ++ rounds (l.count - l._round) l.rest ≡ l.initial.lines ++ rounds l.count l.all
