use Rattle.std.proofs.Common.{◌≡◌, take}
use Rattle.sk_expr.proofs.sameness.are_same_rows.Given as goal

-- What stands before this place is the same.
abbrev pub invariant-loop-at : goal.invariant-loop-at
invariant-loop-at l = take l.at l.a ≡ take l.at l.b
