use Rattle.std.proofs.Common.{◌≡◌, ◌++◌, take}
use Rattle.std.specs.List.{flat_map}
use Rattle.std.specs.String.{string_bytes}
use Rattle.sk_text.specs.Text.{ack_line}
use Rattle.sk_text.proofs.flush.put_acks.Given as goal

-- The receipts before this one are written.
abbrev pub invariant-loop-receipt : goal.invariant-loop-receipt
invariant-loop-receipt l = string_bytes l.out ≡ string_bytes l.initial.out ++ flat_map ack_line (take l.receipt-index l.receipts)
