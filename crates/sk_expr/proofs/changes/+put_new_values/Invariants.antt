use Rattle.std.proofs.Common.{length}
use Rattle.sk_expr.proofs.changes.+put_new_values.Given as goal

-- The columns that are still to be put grow fewer.
abbrev pub decreases-put_new_values : goal.decreases-put_new_values
decreases-put_new_values l = length l.of.now
