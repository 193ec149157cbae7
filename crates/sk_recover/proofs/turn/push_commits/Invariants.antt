use Rattle.std.proofs.Common.{◌≡◌, ◌++◌}
use Rattle.sk_log.specs.Stores.{commits}
use Rattle.sk_recover.proofs.turn.push_commits.Given as goal

-- what was put there, and what is to come, make all
abbrev pub invariant-loop-found : goal.invariant-loop-found
invariant-loop-found l = l.list ++ commits l.found-iterator.rest.items ≡ l.fn.list ++ commits l.fn.logged.items
