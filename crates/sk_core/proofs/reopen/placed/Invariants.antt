use Rattle.std.proofs.Common.{◌≡◌, ◌++◌, cond}
use Rattle.sk_linked.specs.Traces.{placed}
use Rattle.sk_core.proofs.reopen.placed.Given as goal

-- The commits so far with those to come are all; among these the one has its place unless it was found.
abbrev pub invariant-loop-other : goal.invariant-loop-other
invariant-loop-other l = l.out ++ cond l.found l.other-iterator.rest.items (placed l.name l.n l.commit l.other-iterator.rest.items) ≡ placed l.name l.n l.commit l.fn.commits
