use Rattle.std.proofs.Common.{◌≡◌, ◌+◌, take, sum_by}
use Rattle.sk_rows.specs.Values.{encoded_len}
use Rattle.sk_expr.proofs.rooms.has_room.Given as goal

-- The values before this one take what is no longer left.
abbrev pub invariant-loop-value : goal.invariant-loop-value
invariant-loop-value l = l.room + sum_by encoded_len (take l.value-index l.values) ≡ 1024
