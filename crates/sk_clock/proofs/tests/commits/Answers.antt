use Rattle.sk_clock.proofs.tests.commits.Goals as goal

pub check-requires-clause-drawn : goal.check-requires-clause-drawn
check-requires-clause-drawn c = c.in-Ok-draw_store.ensures.held c.in-Ok.ca c.in-Ok.ensures.held
