use Rattle.std.proofs.Common.{◌≡◌, ◌++◌, take}
use Rattle.std.specs.List.{flat_map}
use Rattle.std.specs.String.{string_bytes}
use Rattle.sk_text.specs.Text.{order_line}
use Rattle.sk_text.proofs.report.put_order.Given as goal

-- The commits before this one are written.
abbrev pub invariant-loop-commit : goal.invariant-loop-commit
invariant-loop-commit l = string_bytes l.out ≡ string_bytes l.initial.out ++ flat_map order_line (take l.commit-index l.order)
