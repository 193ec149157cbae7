use Rattle.std.proofs.Common.{◌≡◌, length}
use Rattle.sk_script.specs.Options.{number_or}
use Rattle.sk_script.proofs.settings.number_or.Given as goal

-- The lines so far have other names.
abbrev pub invariant-loop-rest : goal.invariant-loop-rest
invariant-loop-rest l = number_or l.other l.rest l.name ≡ number_or l.other l.lines l.name

abbrev pub decreases-loop-rest : goal.decreases-loop-rest
decreases-loop-rest l = length l.rest
