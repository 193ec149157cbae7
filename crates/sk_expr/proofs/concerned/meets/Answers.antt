use Rattle.sk_expr.proofs.concerned.meets.Goals as goal

pub returns-in-Some : goal.returns-in-Some
returns-in-Some c = rw (c.in-Some.is, ← c.as_slice.ensures) c.holds_over.ensures
