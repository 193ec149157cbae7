use Rattle.std.proofs.Common.{◌≡◌, ◌++◌, length}
use Rattle.std.specs.BTreeSet.{contains}
use Rattle.std.specs.String.{string_bytes}
use Rattle.sk_model.specs.Engine.{label_cmp}
use Rattle.sk_text.specs.Text.{record_lines}
use Rattle.sk_text.proofs.report.put_record_lines.Given as goal

-- What is written and the lines to come make all lines.
abbrev pub invariant-loop-records : goal.invariant-loop-records
invariant-loop-records l =
    string_bytes l.out ++ record_lines (contains label_cmp l.named) l.records l.places
    ≡ string_bytes l.initial.out ++ record_lines (contains label_cmp l.named) l.initial.records l.initial.places

abbrev pub decreases-loop-records : goal.decreases-loop-records
decreases-loop-records l = length l.records
