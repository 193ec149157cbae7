use Rattle.std.proofs.Common.{◌≡◌, length}
use Rattle.sk_script.specs.Script.{is_passed_over}
use Rattle.sk_script.proofs.line.is_passed_over.Given as goal

-- The bytes so far are spaces.
abbrev pub invariant-loop-line : goal.invariant-loop-line
invariant-loop-line l = is_passed_over l.line ≡ is_passed_over l.initial.line

abbrev pub decreases-loop-line : goal.decreases-loop-line
decreases-loop-line l = length l.line
