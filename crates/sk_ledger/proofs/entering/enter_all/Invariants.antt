use Rattle.std.proofs.Common.{map, take}
use Rattle.sk_model.specs.declared.journal.JournalPart.{JournalPart}
use Rattle.sk_ledger.specs.Puts.{HasPuts}
use Rattle.sk_ledger.proofs.entering.enter_all.Given as goal

-- The map has the puts of the parts so far.
abbrev pub invariant-loop-part : goal.invariant-loop-part
invariant-loop-part l = HasPuts l.puts.entries (map (λ (part : JournalPart). part.entry) (take l.part-index l.parts))
