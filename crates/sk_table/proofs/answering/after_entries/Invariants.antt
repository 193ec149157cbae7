use Rattle.std.proofs.Common.{◌≡◌, drop}
use Rattle.sk_model.specs.Legal.{after_entries}
use Rattle.sk_table.proofs.answering.after_entries.Given as goal

-- The entries to come leave what all of them leave.
abbrev pub invariant-loop-entry : goal.invariant-loop-entry
invariant-loop-entry l = after_entries l.after (drop l.entry-index l.entries) ≡ after_entries l.fn.table l.entries
