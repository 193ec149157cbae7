use Rattle.sk_booked.proofs.Callers.{both_are_every}
use Rattle.sk_booked.proofs.tests.put_in_two.Goals as goal

pub journal_of-requires-clause-every : goal.journal_of-requires-clause-every
journal_of-requires-clause-every g c = both_are_every _ _ _ _ _ _ c.in-Ok.ensures.ok.2 c.split-two.ensures.old.1 c.split-two.ensures.new.1 c.join-one.ensures.first.1 c.join-one.ensures.second.1
