use Rattle.std.proofs.Common.{◌≡◌, ◌++◌, drop}
use Rattle.sk_model.specs.Talks.{puts_in}
use Rattle.sk_weave.specs.Woven.{own_writes}
use Rattle.sk_linked.specs.Reads.{owns}
use Rattle.sk_core.proofs.reopen.own_puts.Given as goal

-- The writes so far with those of the calls to come are all.
abbrev pub invariant-loop-call : goal.invariant-loop-call
invariant-loop-call l = l.out ++ own_writes (owns l.catalog l.name) (puts_in (drop l.call-index l.talk)) ≡ own_writes (owns l.catalog l.name) (puts_in l.talk)
