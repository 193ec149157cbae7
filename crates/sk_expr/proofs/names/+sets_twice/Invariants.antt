use Rattle.std.proofs.Common.{length}
use Rattle.sk_expr.proofs.names.+sets_twice.Given as goal

-- The columns that are still to be looked at grow fewer.
abbrev pub decreases-sets_twice : goal.decreases-sets_twice
decreases-sets_twice l = length l.sets.now
