use Rattle.std.proofs.Common.{◌≡◌, take}
use Rattle.std.specs.BTreeSet.{contains}
use Rattle.sk_model.specs.declared.label.Label.{Label}
use Rattle.sk_model.specs.Engine.{label_cmp}
use Rattle.sk_text.specs.Text.{is_named}
use Rattle.sk_text.proofs.report.labels_of.Given as goal

-- The set has the labels of the receipts before this one.
abbrev pub invariant-loop-receipt : goal.invariant-loop-receipt
invariant-loop-receipt l = (q : Label) → contains label_cmp l.named q ≡ is_named (take l.receipt-index l.receipts) q
