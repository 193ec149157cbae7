use Rattle.std.proofs.Common.{length}
use Rattle.sk_rows.proofs.catalog.+are_named.Given as goal

-- proposed from what the function passes where it calls itself
abbrev pub decreases-are_named : goal.decreases-are_named
decreases-are_named l = length l.columns.now
