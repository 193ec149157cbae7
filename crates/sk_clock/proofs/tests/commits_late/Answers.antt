use Rattle.sk_clock.proofs.Passing.{drawn_stays}
use Rattle.sk_clock.proofs.tests.commits_late.Goals as goal

pub check-requires-clause-drawn : goal.check-requires-clause-drawn
check-requires-clause-drawn c =
    let drew = c.in-Ok-draw_store.ensures.held c.in-Ok.ca c.in-Ok.ensures.held in
    drawn_stays _ _ _ _ _ _ c.select-selected.ensures.answer.at (drawn_stays _ _ _ _ _ _ c.begin-a.ensures.answer drew)
