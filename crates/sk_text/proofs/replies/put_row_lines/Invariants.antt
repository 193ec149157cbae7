use Rattle.std.proofs.Common.{◌≡◌, ◌++◌, take}
use Rattle.std.specs.String.{string_bytes}
use Rattle.sk_text.specs.Text.{row_lines}
use Rattle.sk_text.proofs.replies.put_row_lines.Given as goal

-- The rows before this one are written.
abbrev pub invariant-loop-row : goal.invariant-loop-row
invariant-loop-row l = string_bytes l.out ≡ string_bytes l.initial.out ++ row_lines l.session (take l.row-index l.rows)
