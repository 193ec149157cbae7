use Rattle.std.proofs.Common.{length}
use Rattle.sk_store.proofs.Opening.{LoadedTo}
use Rattle.sk_store.proofs.loading.load_rows.Given as goal

abbrev pub invariant-loop-list : goal.invariant-loop-list
invariant-loop-list g l = LoadedTo g.R.Rows.shows l.initial.rows l.rows l.start l.table l.entries l.list

abbrev pub decreases-loop-list : goal.decreases-loop-list
decreases-loop-list g l = length l.list
