-- The records so far, and those of the sessions that are left.
use Rattle.std.proofs.Common.{◌≡◌, ◌++◌, map}
use Rattle.sk_session.specs.Starting.{records_now}
use Rattle.sk_run.specs.Ended.{joined}
use Rattle.sk_run.proofs.run.records_of.Given as goal

abbrev pub invariant-loop-session : goal.invariant-loop-session
invariant-loop-session l = l.all ++ joined (map records_now l.session-iterator.rest.items) ≡ joined (map records_now l.initial.session-iterator.rest.items)
