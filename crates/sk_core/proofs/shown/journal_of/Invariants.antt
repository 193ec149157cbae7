use Rattle.std.proofs.Common.{◌≡◌, take}
use Rattle.sk_core.proofs.shown.journal_of.Given as goal

-- What is entered are the entries so far.
abbrev pub invariant-loop-entry : goal.invariant-loop-entry
invariant-loop-entry l = l.writer.entries ≡ take l.entry-index l.entries
