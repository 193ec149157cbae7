use Rattle.std.proofs.Common.{◌≡◌, ◌-◌}
use Rattle.sk_script.specs.Header.{columns, columns_from}
use Rattle.sk_script.proofs.header.columns.Given as goal

abbrev pub invariant-loop-turn : goal.invariant-loop-turn
invariant-loop-turn l = columns l.fn.cursor ≡ columns_from (l._turn-end - l._turn) l.found l.cursor
