use Rattle.sk_booked.proofs.Callers.{both_are_every}
use Rattle.sk_booked.proofs.tests.ask_twice.Goals as goal

pub journal_of-requires-clause-every : goal.journal_of-requires-clause-every
journal_of-requires-clause-every g c = both_are_every _ _ _ _ _ _ c.in-Ok.ensures.ok.2 c.split-two.ensures.old.1 c.split-two.ensures.new.1 c.ask.ensures.same c.ask-2.ensures.same
