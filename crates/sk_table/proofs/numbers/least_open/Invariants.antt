use Rattle.std.proofs.Common.{◌≡◌, drop}
use Rattle.sk_model.specs.EngineReplies.{least_open}
use Rattle.sk_table.proofs.numbers.least_open.Given as goal

-- The least so far and the openings to come have the least of all.
abbrev pub invariant-loop-entry : goal.invariant-loop-entry
invariant-loop-entry l = least_open (drop l.entry-index l.openings) l.least ≡ least_open l.openings l.fn.from
