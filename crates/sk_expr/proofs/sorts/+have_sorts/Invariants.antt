use Rattle.std.proofs.Common.{length}
use Rattle.sk_expr.proofs.sorts.+have_sorts.Given as goal

-- The values that are still to be looked at grow fewer.
abbrev pub decreases-have_sorts : goal.decreases-have_sorts
decreases-have_sorts l = length l.values.now
