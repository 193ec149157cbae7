use Rattle.std.proofs.Common.{◌≡◌, length, map}
use Rattle.sk_script.specs.Options.{range_in}
use Rattle.sk_script.proofs.options.range_in.Given as goal

-- The choices so far have other names.
abbrev pub invariant-loop-choices : goal.invariant-loop-choices
invariant-loop-choices l = range_in (map (λ c. (c.0.now, c.1, c.2)) l.choices) l.name ≡ range_in (map (λ c. (c.0.now, c.1, c.2)) l.initial.choices) l.name

abbrev pub decreases-loop-choices : goal.decreases-loop-choices
decreases-loop-choices l = length l.choices
